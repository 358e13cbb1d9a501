use Rattle.std.proofs.Common.{◌≡◌, ◌<◌, ℕ, Some, slice_get}
use Rattle.mcs_node.specs.Nodes.{IsNodeData, NodeData}
use Rattle.mcs_mesh.proofs.answering.look_at_each.Given as goal

abbrev pub invariant-loop-node : goal.invariant-loop-node
invariant-loop-node g l = (i : ℕ) (d : NodeData) → i < l.node-index → slice_get l.nodes i ≡ Some d → IsNodeData d
