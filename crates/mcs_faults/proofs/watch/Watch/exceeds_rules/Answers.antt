use Rattle.std.proofs.lemmas.Bool.Decides.{Decides-eqb}
use Rattle.mcs_base.proofs.Booleans.{decides_both, false_tells}
use Rattle.mcs_faults.proofs.LimitLemmas.{rules-beyond}
use Rattle.mcs_faults.proofs.watch.Watch.exceeds_rules.Goals as goal

pub returns-in-NamesTarget : goal.returns-in-NamesTarget
returns-in-NamesTarget c = λ before m a asked.
    rw (c.most.ensures, c.rules_into.ensures before c.args.said.now.token.now asked.watch c.number_of.ensures) (decides_both _ (rules-beyond c.args.self.now before m a c.args.said.now asked) c.in-NamesTarget.is (Decides-eqb _ 12))

pub returns-in_default : goal.returns-in_default
returns-in_default c = λ before m a asked. false_tells (λ h. c.in_default.not-NamesTarget ((rules-beyond c.args.self.now before m a c.args.said.now asked).0 h).0)
