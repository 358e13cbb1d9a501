use Rattle.std.proofs.Common.{◌≡◌, ◌↔◌, Some, drop}
use Rattle.mcs_spelling.specs.Words.{literals_of_bytes}
use Rattle.mcs_steps.proofs.step.are_spelled.Given as goal

abbrev pub invariant-loop-literal : goal.invariant-loop-literal
invariant-loop-literal l = (literals_of_bytes l.bytes ≡ Some l.literals) ↔ (literals_of_bytes l.left ≡ Some (drop l.literal-index l.literals))
