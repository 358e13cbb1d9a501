use Rattle.std.proofs.Common.{◌≡◌, ◌++◌, true, codes, map, drop}
use Rattle.mcs_system.specs.Seen.{formula_of}
use Rattle.mcs_writer.specs.Canonical.{formula_text, joined_by}
use Rattle.mcs_writer.proofs.item_writer.push_justifications.Given as goal

abbrev pub invariant-loop-just : goal.invariant-loop-just
invariant-loop-just l = l.text ++ joined_by (codes ", ") l.is_first (map formula_text (map formula_of (drop l.just-index l.justs))) ≡ l.fn.text ++ joined_by (codes ", ") true (map formula_text (map formula_of l.justs))
