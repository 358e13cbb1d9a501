use Rattle.mcs_mesh.specs.Replays.{IsNoneStopped}
use Rattle.mcs_mesh.proofs.replay.lowest_halt.Given as goal

abbrev pub invariant-loop-node : goal.invariant-loop-node
invariant-loop-node g l = IsNoneStopped l.node-index l.nodes
