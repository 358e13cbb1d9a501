use Rattle.mcs_base.proofs.Booleans.{decides_both, false_tells}
use Rattle.mcs_faults.proofs.LimitLemmas.{weight-beyond}
use Rattle.mcs_faults.proofs.TellLemmas.{told-heavy}
use Rattle.mcs_faults.proofs.watch.Watch.exceeds_weight.Goals as goal

pub returns-in-Weighs : goal.returns-in-Weighs
returns-in-Weighs c = λ before m a asked.
    rw (c.most.ensures, c.weight_of.ensures) (decides_both _ (weight-beyond c.args.self.now before m a c.args.said.now asked) c.in-Weighs.is (told-heavy c.args.said.now.token.now))

pub returns-in_default : goal.returns-in_default
returns-in_default c = λ before m a asked. false_tells (λ h. c.in_default.not-Weighs ((weight-beyond c.args.self.now before m a c.args.said.now asked).0 h).0)
