use Rattle.std.proofs.lemmas.Bool.Decides.{Decides-eqb}
use Rattle.mcs_base.proofs.Booleans.{decides_both, decides_false}
use Rattle.mcs_faults.proofs.LimitLemmas.{items-beyond}
use Rattle.mcs_faults.proofs.watch.Watch.exceeds_items.Goals as goal

pub returns-then-said : goal.returns-then-said
returns-then-said c = λ before m a asked.
    rw (c.most.ensures, c.items_of.ensures before a.subject.context asked.watch asked.subject_is.context) (decides_both _ (items-beyond c.args.self.now before m a c.args.said.now asked) c.if-said.true (Decides-eqb _ 4096))

pub returns-else-said : goal.returns-else-said
returns-else-said c = λ before m a asked. decides_false _ c.if-said.false (λ h. ((items-beyond c.args.self.now before m a c.args.said.now asked).0 h).0)
