use Rattle.std.proofs.Common.{◌≡◌, ◌<◌}
use Rattle.std.specs.List.{AllByRecursion}
use Rattle.mcs_grounded.specs.Parts.{numbers_at}
use Rattle.mcs_grounded.proofs.places.numbers_at.Given as goal

-- with those that are still to come the numbers are all
abbrev pub invariant-loop-number : goal.invariant-loop-number
invariant-loop-number l = record {
  all : numbers_at l.sets l.places l.chosen l.number-iterator ≡ numbers_at l.sets l.places 0 l.fn.numbers;
  small : AllByRecursion (λ k. k < 64) l.number-iterator;
}
