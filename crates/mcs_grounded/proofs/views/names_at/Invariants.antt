use Rattle.std.proofs.Common.{◌≡◌, ◌+◌, ◌++◌, ◌<◌, ◌≤◌, length, map}
use Rattle.std.specs.List.{AllByRecursion}
use Rattle.mcs_grounded.specs.Views.{name_at, names_there}
use Rattle.mcs_grounded.proofs.views.names_at.Given as goal

-- with those that are still to come the names are all
abbrev pub invariant-loop-place : goal.invariant-loop-place
invariant-loop-place l = record {
  lent : map (λ n. n.now) l.names.items ++ map (name_at l.atoms) l.place-iterator ≡ names_there l.atoms l.fn.places;
  known : AllByRecursion (λ k. k < length l.atoms) l.place-iterator;
  few : length l.names.items + length l.place-iterator ≤ 64;
}
