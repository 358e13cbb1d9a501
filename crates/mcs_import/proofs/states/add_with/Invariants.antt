use Rattle.std.proofs.Common.{◌≡◌, ◌++◌, map, take}
use Rattle.mcs_sets.specs.Sets.{union, single}
use Rattle.mcs_import.proofs.states.add_with.Given as goal

abbrev pub invariant-loop-index : goal.invariant-loop-index
invariant-loop-index l = l.states.items ≡ l.fn.states.items ++ map (λ s. union s (single l.variable)) (take l.index l.fn.states.items)
