use Rattle.std.proofs.Common.{refl, arith}
use Rattle.mcs_base.proofs.Booleans.{decides_false}
use Rattle.mcs_base.proofs.Lists.{slice_get_read_as, slice_get_past_as}
use Rattle.mcs_faults.proofs.InputLemmas.{variable-number, few-inputs, inputs-told, no-target}
use Rattle.mcs_faults.proofs.LimitLemmas.{inputs-beyond}
use Rattle.mcs_faults.proofs.watch.Watch.exceeds_inputs.Goals as goal

pub returns-in_default : goal.returns-in_default
returns-in_default c = λ before m a asked. decides_false _ refl (λ h. absurd (no-target c.args.self.now before m a c.args.said.now asked (slice_get_past_as c.args.self.now.contexts.items c.deref.result.now c.args.said.now.subject.target c.deref.ensures.value c.in_default.ensures.lookup.3) h))

pub returns-then-count-most : goal.returns-then-count-most
returns-then-count-most c = λ before m a asked. decides_false _ refl (λ h. absurd (few-inputs c.args.self.now before m a c.args.said.now asked c.in-Some.target.now (slice_get_read_as c.args.self.now.contexts.items c.deref.result.now c.args.said.now.subject.target c.in-Some.target.now c.deref.ensures.value c.in-Some.ensures.lookup.3.0 c.in-Some.ensures.lookup.1) (omega (arith, c.count.ensures.number)) h))

pub returns-then-said : goal.returns-then-said
returns-then-said c = λ before m a asked. inputs-told c.args.self.now before m a c.args.said.now asked c.in-Some.target.now (slice_get_read_as c.args.self.now.contexts.items c.deref.result.now c.args.said.now.subject.target c.in-Some.target.now c.deref.ensures.value c.in-Some.ensures.lookup.3.0 c.in-Some.ensures.lookup.1) c.variable_number.result c.is_input.result c.if-said.true (variable-number c.args.self.now before m a c.args.said.now asked c.variable_number.result c.variable_number.ensures.some c.variable_number.ensures.none c.if-said.true) c.is_input.ensures (omega (arith, c.count.ensures.number))

pub returns-else-said : goal.returns-else-said
returns-else-said c = λ before m a asked. decides_false _ c.if-said.false (λ h. ((inputs-beyond c.args.self.now before m a c.args.said.now asked).0 h).0)
