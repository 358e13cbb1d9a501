use Rattle.mcs_laws.proofs.Choices.{choice_is_diagnosis, state_is_choice, minimal_from_choice, consistent_minimal, consistent_unexplained}
use Rattle.mcs_laws.proofs.diagnoses_are_choices.Goals as goal

pub returns : goal.returns
returns c = record {
  all = choice_is_diagnosis;
  states = state_is_choice;
  minimal = minimal_from_choice;
  consistent = λ m σ at. (consistent_minimal m σ at, consistent_unexplained m σ at);
}
