use Rattle.std.proofs.Common.{length}
use Rattle.mcs_crew.proofs.SendSteps.{IsSending}
use Rattle.mcs_crew.proofs.sending.send_out.Given as goal

abbrev pub invariant-loop-letter : goal.invariant-loop-letter
invariant-loop-letter g l = IsSending l.initial.node l.node l.initial.addresses l.addresses

abbrev pub decreases-loop-letter : goal.decreases-loop-letter
decreases-loop-letter g l = length l.node.outbox
