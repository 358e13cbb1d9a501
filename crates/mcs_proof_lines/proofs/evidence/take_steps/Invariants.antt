use Rattle.std.proofs.Common.{◌≡◌, ◌++◌, List, map, length}
use Rattle.mcs_trace.specs.Traces.{Inference, inference_of}
use Rattle.mcs_proof_lines.specs.Walks.{At, steps_at}
use Rattle.mcs_proof_lines.proofs.evidence.take_steps.Given as goal

abbrev pub invariant-loop-steps : goal.invariant-loop-steps
invariant-loop-steps l = ◌≡◌ {A = List Inference × At} (map inference_of l.steps.items ++ (steps_at l.lines).0, (steps_at l.lines).1) (steps_at l.fn.lines)

abbrev pub decreases-loop-steps : goal.decreases-loop-steps
decreases-loop-steps l = length l.lines.rest
