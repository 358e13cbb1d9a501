use Rattle.std.proofs.lemmas.Bool.Decides.{Decides-eqb}
use Rattle.mcs_base.proofs.Booleans.{decides_both, false_tells}
use Rattle.mcs_faults.proofs.LimitLemmas.{defaults-beyond}
use Rattle.mcs_faults.proofs.watch.Watch.exceeds_defaults.Goals as goal

pub returns-in-BeginsDefault : goal.returns-in-BeginsDefault
returns-in-BeginsDefault c = λ before m a asked.
    rw (c.most.ensures, c.defaults_of.ensures before a.subject.context asked.watch asked.subject_is.context) (decides_both _ (defaults-beyond c.args.self.now before m a c.args.said.now asked) c.in-BeginsDefault.is (Decides-eqb _ 10))

pub returns-in_default : goal.returns-in_default
returns-in_default c = λ before m a asked. false_tells (λ h. c.in_default.not-BeginsDefault ((defaults-beyond c.args.self.now before m a c.args.said.now asked).0 h).0)
