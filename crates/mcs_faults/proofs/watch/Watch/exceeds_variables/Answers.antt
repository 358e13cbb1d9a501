use Rattle.std.proofs.Common.{refl, arith}
use Rattle.mcs_base.proofs.Booleans.{decides_false}
use Rattle.mcs_faults.proofs.InputLemmas.{variable-number, few-variables, variables-told}
use Rattle.mcs_faults.proofs.LimitLemmas.{variables-beyond}
use Rattle.mcs_faults.proofs.watch.Watch.exceeds_variables.Goals as goal

pub returns-then-len-most : goal.returns-then-len-most
returns-then-len-most c = λ before m a asked. decides_false _ refl (λ h. absurd (few-variables c.args.self.now before m a c.args.said.now asked (omega (arith, c.args.self.now.variables.ok.0)) h))

pub returns-then-said : goal.returns-then-said
returns-then-said c = λ before m a asked. variables-told c.args.self.now before m a c.args.said.now asked c.variable_number.result c.len-then-said.result c.if-said.true (variable-number c.args.self.now before m a c.args.said.now asked c.variable_number.result c.variable_number.ensures.some c.variable_number.ensures.none c.if-said.true) (omega (arith, c.args.self.now.variables.ok.0)) (omega (arith, c.args.self.now.variables.ok.0))

pub returns-else-said : goal.returns-else-said
returns-else-said c = λ before m a asked. decides_false _ c.if-said.false (λ h. ((variables-beyond c.args.self.now before m a c.args.said.now asked).0 h).0)
