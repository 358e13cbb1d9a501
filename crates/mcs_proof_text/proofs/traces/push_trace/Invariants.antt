use Rattle.std.proofs.Common.{◌≡◌, ◌++◌, map, drop}
use Rattle.mcs_trace.specs.Traces.{inference_of}
use Rattle.mcs_proof_text.specs.Lines.{written_lines}
use Rattle.mcs_proof_text.specs.Answers.{trace_lines}
use Rattle.mcs_proof_text.proofs.traces.push_trace.Given as goal

abbrev pub invariant-loop-step : goal.invariant-loop-step
invariant-loop-step l = l.text ++ written_lines l.names (trace_lines (map inference_of (drop l.step-index l.step-items))) ≡ l.fn.text ++ written_lines l.names (trace_lines (map inference_of l.trace.steps.items))
