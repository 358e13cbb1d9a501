use Rattle.std.proofs.Common.{refl}
use Rattle.mcs_base.proofs.Lists.{slice_get_read_as, slice_get_past_as}
use Rattle.mcs_faults.proofs.ContextSteps.{step-begins_default, more-defaults}
use Rattle.mcs_faults.proofs.WatchFacts.{seen-none}
use Rattle.mcs_faults.proofs.watch.Watch.count_default.Goals as goal

pub returns-in-Some : goal.returns-in-Some
returns-in-Some c = λ before n watch number spoken allowed.
    let here = slice_get_read_as c.args.self.now.contexts.items c.args.self.now.contexts.items c.args.number c.in-Some.context.now refl c.in-Some.ensures.item.3.0 c.in-Some.ensures.value in
    step-begins_default c.args.self.now before watch n c.args.number number c.in-Some.context.now here _ refl refl refl refl spoken allowed _ c.saturating_add-context.result
    (more-defaults c.args.self.now before watch n c.args.number number c.in-Some.context.now here c.saturating_add-context.result c.saturating_add-context.ensures) refl refl

pub returns-in_default : goal.returns-in_default
returns-in_default c = λ before n watch number spoken allowed. absurd (seen-none c.args.self.now before watch n c.args.number number (slice_get_past_as c.args.self.now.contexts.items c.args.self.now.contexts.items c.args.number refl c.in_default.ensures.item.3) spoken)
