use Rattle.std.proofs.Common.{◌∙◌, sym, subst}
use Rattle.mcs_base.proofs.SetParts.{none_is_within}
use Rattle.mcs_system.specs.Plain.{System}
use Rattle.mcs_states.specs.Evaluators.{AreStates}
use Rattle.mcs_reduct.specs.Grounded.{AreAllStates}
use Rattle.mcs_states.proofs.CallLemmas.{asks_cut}
use Rattle.mcs_grounded.proofs.Listed.{states_of_none, level_of_none}
use Rattle.mcs_grounded.proofs.listing.list_grounded.Goals as goal

pub list_states-requires : goal.list_states-requires
list_states-requires g c = record { going = c.requires.evaluator.going; allowed = none_is_within c.new.result _ (c.new.ensures ∙ c.empty.ensures) }

pub grounded_among-requires-clause-states : goal.grounded_among-requires-clause-states
grounded_among-requires-clause-states g c = subst (AreAllStates c.args.system.now) (sym c.deref.ensures.value) (states_of_none c.args.system.now c.new.result _ (c.new.ensures ∙ c.empty.ensures) (subst (λ (m : System). AreStates m c.new.result c.in_ok-states.states.items) c.requires.evaluator.same c.in_ok-states.ensures.listing))

pub returns-in_err-states-clause-call : goal.returns-in_err-states-clause-call
returns-in_err-states-clause-call g c = asks_cut 0 _ _ _ _ c.from_residual.ensures.1 (level_of_none _ _ c.new.result _ (c.new.ensures ∙ c.empty.ensures) c.in_err-states.ensures.call)

pub returns-clause-call : goal.returns-clause-call
returns-clause-call g c = let call = level_of_none _ _ c.new.result _ (c.new.ensures ∙ c.empty.ensures) c.in_ok-states.ensures.call in record { done = call.done; halt = tt; rest = call.rest }
