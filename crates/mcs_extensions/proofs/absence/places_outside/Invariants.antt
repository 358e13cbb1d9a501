use Rattle.std.proofs.Common.{◌≡◌, ◌<◌, ◌≤◌, length, map}
use Rattle.std.specs.List.{AllByRecursion}
use Rattle.mcs_sets.specs.Sets.{members_from}
use Rattle.mcs_system.specs.Seen.{default_of}
use Rattle.mcs_evidence.proofs.TheoryLemmas.{others}
use Rattle.mcs_extensions.proofs.absence.places_outside.Given as goal

abbrev pub invariant-loop-index : goal.invariant-loop-index
invariant-loop-index l = record {
  bound : l.index ≤ length l.defaults;
  places : l.places.items ≡ members_from 0 l.index (others (map (λ d. default_of d.now) l.defaults) l.set);
  below : AllByRecursion (λ k. k < 64) l.places.items;
}
