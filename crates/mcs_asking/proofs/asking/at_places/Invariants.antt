use Rattle.std.proofs.Common.{◌≡◌, ◌+◌, ◌<◌, ◌≤◌, length}
use Rattle.std.specs.List.{AllByRecursion}
use Rattle.mcs_sets.specs.Sets.{union}
use Rattle.mcs_system.specs.Views.{at_places, at_places_from}
use Rattle.mcs_asking.proofs.asking.at_places.Given as goal

-- with those that are still to come the chosen are all
abbrev pub invariant-loop-place : goal.invariant-loop-place
invariant-loop-place l = record {
  all : union l.chosen (at_places_from l.place-iterator.count l.place-iterator.iter l.places) ≡ at_places l.fn.set l.fn.places;
  small : AllByRecursion (λ k. k < 64) l.place-iterator.iter;
  few : l.place-iterator.count + length l.place-iterator.iter ≤ 64;
}
