use Rattle.std.proofs.Common.{◌≡◌, ◌++◌, true, codes, drop}
use Rattle.mcs_writer.specs.Canonical.{joined_by}
use Rattle.mcs_writer.proofs.item_writer.push_head.Given as goal

abbrev pub invariant-loop-name : goal.invariant-loop-name
invariant-loop-name l = l.text ++ joined_by (codes " | ") l.is_first (drop l.name-index l.head) ≡ l.fn.text ++ joined_by (codes " | ") true l.head
