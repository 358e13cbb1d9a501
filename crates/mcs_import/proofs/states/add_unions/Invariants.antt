use Rattle.std.proofs.Common.{◌≡◌, ◌++◌, map, take}
use Rattle.mcs_sets.specs.Sets.{union}
use Rattle.mcs_import.proofs.states.add_unions.Given as goal

abbrev pub invariant-loop-other : goal.invariant-loop-other
invariant-loop-other l = l.unions.items ≡ l.fn.unions.items ++ map (union l.state) (take l.other-index l.others)
