use Rattle.mcs_laws.proofs.Free.{all_allowed, free_diagnoses, free_explanations, free_choices, free_questions, free_rows}
use Rattle.mcs_laws.proofs.unbarred_rules_are_free.Goals as goal

pub returns : goal.returns
returns c = record { marks = all_allowed; diagnoses = free_diagnoses; explanations = free_explanations; choices = free_choices; questions = free_questions; rows = free_rows }
