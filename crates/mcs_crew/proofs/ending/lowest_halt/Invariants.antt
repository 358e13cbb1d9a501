use Rattle.std.proofs.Common.{◌≡◌, ◌<◌, ℕ, false, Some, slice_get}
use Rattle.mcs_node.specs.Nodes.{NodeData}
use Rattle.mcs_crew.proofs.ending.lowest_halt.Given as goal

abbrev pub invariant-loop-node : goal.invariant-loop-node
invariant-loop-node g l = (i : ℕ) (d : NodeData) → i < l.node-index → slice_get l.nodes i ≡ Some d → d.state.by_itself ≡ false
