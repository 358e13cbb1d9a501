use Rattle.std.proofs.Common.{◌≡◌, ◌++◌, map, drop}
use Rattle.mcs_spelling.specs.Parts.{literal_text, spaced}
use Rattle.mcs_spelling.proofs.numbers.push_literals.Given as goal

abbrev pub invariant-loop-literal : goal.invariant-loop-literal
invariant-loop-literal l = l.text ++ spaced (map literal_text (drop l.literal-index l.literals)) ≡ l.fn.text ++ spaced (map literal_text l.literals)
