use Rattle.std.proofs.Common.{◌≡◌, ◌++◌, ◌≤◌, List, length, map, vec_capacity, vec_len}
use Rattle.std.specs.List.{AllByRecursion}
use Rattle.mcs_node.specs.Nodes.{NodeData}
use Rattle.mcs_crew.specs.Calls.{nodes_in, without_nodes}
use Rattle.mcs_base.specs.Groups.{grouped}
use Rattle.mcs_crew.proofs.dealing.deal.Given as goal

abbrev pub invariant-loop-node : goal.invariant-loop-node
invariant-loop-node g l = record {
  part : (part : List NodeData) × (l.initial.nodes.items ≡ l.nodes.items ++ part) × (nodes_in l.loads ≡ grouped (length l.initial.loads) (length l.nodes.items) part);
  rest : map without_nodes l.loads ≡ map without_nodes l.initial.loads;
  room : AllByRecursion (λ load. vec_len l.initial.nodes ≤ vec_capacity load.team.nodes) l.loads;
  capacity : vec_capacity l.nodes ≡ vec_capacity l.initial.nodes;
}

abbrev pub decreases-loop-node : goal.decreases-loop-node
decreases-loop-node g l = vec_len l.nodes
