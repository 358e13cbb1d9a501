use Rattle.std.proofs.Common.{◌↔◌, ℕ, take}
use Rattle.mcs_base.specs.Listings.{IsAmong}
use Rattle.mcs_import.specs.Near.{IsNextNear}
use Rattle.mcs_import.proofs.near.next_sets.Given as goal

abbrev pub invariant-loop-set : goal.invariant-loop-set
invariant-loop-set l = (x : ℕ) → IsAmong x l.next.items ↔ IsNextNear l.removable l.forcible (take l.set-index l.sets) l.reached x
