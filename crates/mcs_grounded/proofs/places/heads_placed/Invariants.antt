use Rattle.std.proofs.Common.{◌≡◌, ℕ, ◌<◌, Some, get_or, slice_get, length}
use Rattle.mcs_system.specs.Plain.{Bridge}
use Rattle.mcs_system.specs.Atoms.{atoms_of}
use Rattle.mcs_grounded.specs.Parts.{IsPlaced}
use Rattle.mcs_grounded.proofs.places.heads_placed.Given as goal

-- so it is of the rules before
abbrev pub invariant-loop-number : goal.invariant-loop-number
invariant-loop-number l = record {
  long : length l.heads ≡ 64;
  before : (k : ℕ) (b : Bridge) → k < l.number → slice_get l.system.bridges k ≡ Some b → IsPlaced (atoms_of l.system b.target) b.head (get_or l.heads k 0);
}
