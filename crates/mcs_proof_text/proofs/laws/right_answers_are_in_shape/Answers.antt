use Rattle.mcs_proof_text.proofs.ShapeLaws.{right_shape}
use Rattle.mcs_proof_text.proofs.laws.right_answers_are_in_shape.Goals as goal

pub returns : goal.returns
returns c = right_shape
