use Rattle.std.proofs.Common.{◌≡◌, ℕ, ◌<◌, true, Some, slice_get}
use Rattle.mcs_node.specs.Nodes.{NodeData}
use Rattle.mcs_mesh.proofs.replay.are_all_done.Given as goal

abbrev pub invariant-loop-node : goal.invariant-loop-node
invariant-loop-node g l = (i : ℕ) (d : NodeData) → i < l.node-index → slice_get l.nodes i ≡ Some d → d.state.done ≡ true
