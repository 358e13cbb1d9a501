use Rattle.std.proofs.Common.{◌≡◌, ◌++◌, codes, map, drop}
use Rattle.mcs_writer.specs.Canonical.{joined_by}
use Rattle.mcs_writer.proofs.item_writer.push_literals.Given as goal

abbrev pub invariant-loop-atom : goal.invariant-loop-atom
invariant-loop-atom l = l.text ++ joined_by (codes ", ") l.is_first (map (λ a. l.word ++ a) (drop l.atom-index l.atoms)) ≡ l.fn.text ++ joined_by (codes ", ") l.fn.is_first (map (λ a. l.word ++ a) l.atoms)
