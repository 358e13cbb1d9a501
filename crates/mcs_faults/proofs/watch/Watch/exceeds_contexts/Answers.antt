use Rattle.std.proofs.lemmas.Bool.Decides.{Decides-eqb}
use Rattle.mcs_base.proofs.Booleans.{decides_both, false_tells}
use Rattle.mcs_faults.proofs.LimitLemmas.{contexts-beyond}
use Rattle.mcs_faults.proofs.watch.Watch.exceeds_contexts.Goals as goal

pub returns-in-BeginsContext : goal.returns-in-BeginsContext
returns-in-BeginsContext c = λ before m a asked. rw c.most.ensures (decides_both _ (contexts-beyond c.args.self.now before m a c.args.said.now asked) c.in-BeginsContext.is (Decides-eqb c.args.self.now.contexts_begun 64))

pub returns-in_default : goal.returns-in_default
returns-in_default c = λ before m a asked. false_tells (λ h. c.in_default.not-BeginsContext ((contexts-beyond c.args.self.now before m a c.args.said.now asked).0 h).0)
