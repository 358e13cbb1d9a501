use Rattle.std.proofs.Common.{◌≡◌, ◌++◌, map, drop}
use Rattle.std.specs.List.{flat_map}
use Rattle.mcs_system.specs.Seen.{formula_of}
use Rattle.mcs_writer.specs.Canonical.{formula_text, item_line}
use Rattle.mcs_writer.proofs.item_writer.push_formulas.Given as goal

abbrev pub invariant-loop-formula : goal.invariant-loop-formula
invariant-loop-formula l = l.text ++ flat_map item_line (map formula_text (map formula_of (drop l.formula-index l.formulas))) ≡ l.fn.text ++ flat_map item_line (map formula_text (map formula_of l.formulas))
