use Rattle.std.proofs.Common.{◌≡◌, ◌++◌, map, take, drop}
use Rattle.mcs_node.specs.Nodes.{begun_at}
use Rattle.mcs_mesh.specs.Players.{as_new}
use Rattle.mcs_mesh.proofs.turns.begin_all.Given as goal

abbrev pub invariant-loop-node : goal.invariant-loop-node
invariant-loop-node g l = record {
  begun : l.nodes ≡ map (begun_at l.level) (take l.node-index l.initial.nodes) ++ drop l.node-index l.initial.nodes;
  same : map as_new l.nodes ≡ map as_new l.initial.nodes;
}
