use Rattle.std.proofs.Common.{◌≡◌, length, is_some}
use Rattle.mcs_spelling.specs.Words.{numbers_of}
use Rattle.mcs_steps.proofs.line.are_numbers.Given as goal

abbrev pub invariant-loop-rest : goal.invariant-loop-rest
invariant-loop-rest l = is_some (numbers_of l.left) ≡ is_some (numbers_of l.bytes)

abbrev pub decreases-loop-rest : goal.decreases-loop-rest
decreases-loop-rest l = length l.left
