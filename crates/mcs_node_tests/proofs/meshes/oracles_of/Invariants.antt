use Rattle.std.proofs.Common.{◌≡◌, length}
use Rattle.std.specs.Arc.{arc_value}
use Rattle.mcs_mesh.specs.Rounds.{AreFresh}
use Rattle.mcs_node_tests.proofs.meshes.oracles_of.Given as goal

abbrev pub invariant-loop-context : goal.invariant-loop-context
invariant-loop-context l = (length l.oracles.items ≡ l.context) × AreFresh (arc_value l.system) l.oracles.items
