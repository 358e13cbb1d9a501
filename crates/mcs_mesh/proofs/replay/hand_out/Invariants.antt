use Rattle.std.proofs.Common.{length}
use Rattle.mcs_mesh.proofs.ReplayLemmas.{IsGathering}
use Rattle.mcs_mesh.proofs.replay.hand_out.Given as goal

abbrev pub invariant-loop-letter : goal.invariant-loop-letter
invariant-loop-letter g l = IsGathering l.initial.node l.node l.out.items

abbrev pub decreases-loop-letter : goal.decreases-loop-letter
decreases-loop-letter g l = length l.node.outbox
