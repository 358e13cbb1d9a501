use Rattle.std.proofs.Common.{◌≡◌, ◌+◌, ◌<◌, ◌≤◌, length, drop, slice_get}
use Rattle.std.specs.List.{AllByRecursion}
use Rattle.mcs_sets.specs.Sets.{such_that, members}
use Rattle.mcs_session.specs.Keys.{has_some}
use Rattle.mcs_session.proofs.places.places_in.Given as goal

-- the places among the members so far
abbrev pub invariant-loop-place : goal.invariant-loop-place
invariant-loop-place l = record {
  all : l.places ≡ such_that l.place-iterator.count (λ k. has_some l.fn.part (slice_get (members l.fn.set) k));
  left : l.place-iterator.iter ≡ drop l.place-iterator.count (members l.fn.set);
  small : AllByRecursion (λ k. k < 64) l.place-iterator.iter;
  few : l.place-iterator.count + length l.place-iterator.iter ≤ 64;
}
