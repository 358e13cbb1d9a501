use Rattle.std.proofs.Common.{◌≡◌, ◌++◌, map, length}
use Rattle.mcs_spelling.specs.Lines.{complete_lines}
use Rattle.mcs_proof_reader.proofs.listing.copies_of.Given as goal

-- the lines that were copied, and those that are left
abbrev pub invariant-loop-line : goal.invariant-loop-line
invariant-loop-line l = map (λ copy. copy.items) l.copies.items ++ l.lines.rest ≡ complete_lines l.bytes

abbrev pub decreases-loop-line : goal.decreases-loop-line
decreases-loop-line l = length l.lines.rest
