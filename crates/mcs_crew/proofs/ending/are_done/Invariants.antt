use Rattle.std.proofs.Common.{take}
use Rattle.std.specs.List.{AllByRecursion}
use Rattle.mcs_crew.specs.Trails.{IsDoneNode}
use Rattle.mcs_crew.proofs.ending.are_done.Given as goal

abbrev pub invariant-loop-node : goal.invariant-loop-node
invariant-loop-node g l = AllByRecursion IsDoneNode (take l.node-index l.nodes)
