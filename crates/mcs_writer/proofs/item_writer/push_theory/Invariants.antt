use Rattle.std.proofs.Common.{◌≡◌, ◌++◌, map, drop}
use Rattle.std.specs.List.{flat_map}
use Rattle.mcs_system.specs.Seen.{item_of}
use Rattle.mcs_writer.specs.Canonical.{theory_item_text, item_line}
use Rattle.mcs_writer.proofs.item_writer.push_theory.Given as goal

abbrev pub invariant-loop-item : goal.invariant-loop-item
invariant-loop-item l = l.text ++ flat_map item_line (map theory_item_text (map item_of (drop l.item-index l.items))) ≡ l.fn.text ++ flat_map item_line (map theory_item_text (map item_of l.items))
