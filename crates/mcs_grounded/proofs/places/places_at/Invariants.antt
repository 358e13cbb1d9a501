use Rattle.std.proofs.Common.{◌≡◌, ◌<◌}
use Rattle.std.specs.List.{AllByRecursion}
use Rattle.mcs_grounded.specs.Parts.{places_at}
use Rattle.mcs_grounded.proofs.places.places_at.Given as goal

-- with those that are still to come the places are all
abbrev pub invariant-loop-number : goal.invariant-loop-number
invariant-loop-number l = record {
  all : places_at l.sets l.places l.number-iterator ≡ places_at l.sets 0 l.fn.numbers;
  small : AllByRecursion (λ k. k < 64) l.number-iterator;
}
