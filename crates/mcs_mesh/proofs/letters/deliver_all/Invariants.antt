use Rattle.std.proofs.Common.{◌≡◌, length, map, slice_get}
use Rattle.mcs_mesh.specs.Players.{as_new}
use Rattle.mcs_mesh.proofs.LetterLemmas.{IsHandingOut, letters_of}
use Rattle.mcs_mesh.proofs.letters.deliver_all.Given as goal

abbrev pub invariant-loop-letter : goal.invariant-loop-letter
invariant-loop-letter g l = record {
  handing : IsHandingOut l.i l.initial.nodes l.nodes;
  same : map as_new l.nodes ≡ map as_new l.initial.nodes;
}

abbrev pub decreases-loop-letter : goal.decreases-loop-letter
decreases-loop-letter g l = length (letters_of (slice_get l.nodes l.i))
