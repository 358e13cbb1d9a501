use Rattle.std.proofs.Common.{◌≡◌, ◌≤◌, List, length, map, vec_capacity}
use Rattle.mcs_node.specs.Nodes.{NodeData}
use Rattle.mcs_crew.specs.Calls.{nodes_in, without_nodes}
use Rattle.mcs_base.specs.Groups.{AreShapedAs, grouped}
use Rattle.mcs_base.proofs.GroupLemmas.{IsCollecting}
use Rattle.mcs_crew.proofs.dealing.collect.Given as goal

abbrev pub invariant-loop-i : goal.invariant-loop-i
invariant-loop-i g l = record {
  collecting : (was : List NodeData) → length was ≡ l.contexts → AreShapedAs (grouped (length l.initial.loads) 0 was) (nodes_in l.initial.loads) → IsCollecting (length l.initial.loads) was (nodes_in l.initial.loads) (nodes_in l.loads) l.nodes.items l.i;
  rest : map without_nodes l.loads ≡ map without_nodes l.initial.loads;
  room : l.contexts ≤ vec_capacity l.nodes;
}
