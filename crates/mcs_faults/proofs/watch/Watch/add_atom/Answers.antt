use Rattle.std.proofs.Common.{refl}
use Rattle.std.proofs.lemmas.Bool.Decides.{not_from_Decides}
use Rattle.mcs_base.proofs.Lists.{slice_get_read_as, slice_get_past_as}
use Rattle.mcs_faults.proofs.ContextSteps.{step-atom_again, step-atom_new}
use Rattle.mcs_faults.proofs.WatchFacts.{seen-none}
use Rattle.mcs_faults.proofs.watch.Watch.add_atom.Goals as goal

pub returns-in_default : goal.returns-in_default
returns-in_default c = λ before n watch number word spoken allowed. absurd (seen-none c.args.self.now before watch n c.args.number number (slice_get_past_as c.args.self.now.contexts.items c.args.self.now.contexts.items c.args.number refl c.in_default.ensures.item.3) spoken)

pub returns-then-has : goal.returns-then-has
returns-then-has c = λ before n watch number word spoken allowed.
    let here = slice_get_read_as c.args.self.now.contexts.items c.args.self.now.contexts.items c.args.number c.in-Some.context.now refl c.in-Some.ensures.item.3.0 c.in-Some.ensures.value in
    step-atom_again c.args.self.now before watch n c.args.number number c.in-Some.context.now here _ refl refl refl refl c.args.token.now _ refl refl refl refl refl refl spoken allowed refl refl (c.has.ensures.0 c.if-has.true)

pub returns : goal.returns
returns c = λ before n watch number word spoken allowed.
    let new = not_from_Decides c.has.result c.has.ensures c.if-has.false in
    let here = slice_get_read_as c.args.self.now.contexts.items c.args.self.now.contexts.items c.args.number c.in-Some.context.now refl c.in-Some.ensures.item.3.0 c.in-Some.ensures.value in
    step-atom_new c.args.self.now before watch n c.args.number number c.in-Some.context.now here _ refl refl refl refl c.args.token.now _ refl refl refl refl refl refl spoken allowed refl
    (c.in_ok-add.ensures.new new) new
