use Rattle.std.proofs.Common.{◌≡◌}
use Rattle.mcs_proof_reader.specs.Questions.{decimals}
use Rattle.mcs_proof_reader.proofs.texts.number_texts.Given as goal

abbrev pub invariant-loop-number : goal.invariant-loop-number
invariant-loop-number l = l.texts.items ≡ decimals 1 l.number
