use Rattle.std.proofs.Common.{◌≡◌, ◌++◌, map, take}
use Rattle.mcs_sets.specs.Sets.{union, single}
use Rattle.mcs_import.proofs.fewest.add_with_rule.Given as goal

abbrev pub invariant-loop-index : goal.invariant-loop-index
invariant-loop-index l = l.sets.items ≡ l.fn.sets.items ++ map (λ s. union s (single l.rule)) (take l.index l.fn.sets.items)
