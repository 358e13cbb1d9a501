use Rattle.std.proofs.Common.{◌≡◌, ◌++◌, map, drop}
use Rattle.mcs_proof_text.specs.Lines.{SmallerLine, written_lines}
use Rattle.mcs_proof_text.proofs.programs.push_smaller.Given as goal

abbrev pub invariant-loop-atoms : goal.invariant-loop-atoms
invariant-loop-atoms l = l.text ++ written_lines l.names (map SmallerLine (drop l.atoms-index l.smaller)) ≡ l.fn.text ++ written_lines l.names (map SmallerLine l.smaller)
