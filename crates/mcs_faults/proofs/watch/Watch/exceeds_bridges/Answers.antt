use Rattle.std.proofs.lemmas.Bool.Decides.{Decides-eqb}
use Rattle.mcs_base.proofs.Booleans.{decides_both, false_tells}
use Rattle.mcs_faults.proofs.LimitLemmas.{bridges-beyond}
use Rattle.mcs_faults.proofs.watch.Watch.exceeds_bridges.Goals as goal

pub returns-in-BeginsBridge : goal.returns-in-BeginsBridge
returns-in-BeginsBridge c = λ before m a asked. rw c.most.ensures (decides_both _ (bridges-beyond c.args.self.now before m a c.args.said.now asked) c.in-BeginsBridge.is (Decides-eqb c.args.self.now.bridges_begun 64))

pub returns-in_default : goal.returns-in_default
returns-in_default c = λ before m a asked. false_tells (λ h. c.in_default.not-BeginsBridge ((bridges-beyond c.args.self.now before m a c.args.said.now asked).0 h).0)
