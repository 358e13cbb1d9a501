use Rattle.std.proofs.Common.{◌≡◌, ◌++◌, decimal, map, drop}
use Rattle.mcs_spelling.specs.Parts.{spaced}
use Rattle.mcs_spelling.proofs.numbers.push_numbers.Given as goal

abbrev pub invariant-loop-number : goal.invariant-loop-number
invariant-loop-number l = l.text ++ spaced (map decimal (drop l.number-index l.numbers)) ≡ l.fn.text ++ spaced (map decimal l.numbers)
