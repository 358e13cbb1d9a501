use Rattle.mcs_laws.proofs.Questions.{marks_are_united, marks_are_apart}
use Rattle.mcs_laws.proofs.marks_are_of_contexts.Goals as goal

pub returns : goal.returns
returns c = record { united = marks_are_united; apart = marks_are_apart }
