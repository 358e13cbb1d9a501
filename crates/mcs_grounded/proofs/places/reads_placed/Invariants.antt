use Rattle.std.proofs.Common.{◌≡◌, ℕ, ◌<◌, get_or, length}
use Rattle.mcs_system.specs.Plain.{Read}
use Rattle.mcs_system.specs.Atoms.{atoms_of}
use Rattle.mcs_system.specs.Systems.{IsVariable}
use Rattle.mcs_grounded.specs.Parts.{IsPlaced}
use Rattle.mcs_grounded.proofs.places.reads_placed.Given as goal

-- so it is of the variables before
abbrev pub invariant-loop-number : goal.invariant-loop-number
invariant-loop-number l = record {
  long : length l.reads ≡ 64;
  before : (v : ℕ) (r : Read) → v < l.number → IsVariable l.system v r → IsPlaced (atoms_of l.system r.context) r.belief (get_or l.reads v 0);
}
