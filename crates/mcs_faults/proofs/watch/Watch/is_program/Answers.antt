use Rattle.std.proofs.Common.{sym, true≢false}
use Rattle.mcs_base.proofs.Lists.{slice_get_read_as, slice_get_past_as}
use Rattle.mcs_faults.proofs.WatchFacts.{program-here, seen-none}
use Rattle.mcs_faults.proofs.watch.Watch.is_program.Goals as goal

pub returns-in-Some : goal.returns-in-Some
returns-in-Some c = λ before n watch number. program-here c.args.self.now before watch n c.args.number number c.in-Some.context.now (slice_get_read_as c.args.self.now.contexts.items c.deref.result.now c.args.number c.in-Some.context.now c.deref.ensures.value c.in-Some.ensures.lookup.3.0 c.in-Some.ensures.lookup.1)

pub returns-in-None : goal.returns-in-None
returns-in-None c = λ before n watch number. (λ h. absurd (true≢false (sym h)), λ h. absurd ((seen-none c.args.self.now before watch n c.args.number number (slice_get_past_as c.args.self.now.contexts.items c.deref.result.now c.args.number c.deref.ensures.value c.in-None.ensures.lookup.3)) (watch.spoken _ h)))
