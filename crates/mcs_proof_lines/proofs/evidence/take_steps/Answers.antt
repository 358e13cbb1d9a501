use Rattle.std.proofs.Common.{◌≡◌, ◌<◌, length, Some, sym, ap, ◌∙◌, subst}
use Rattle.std.specs.Option.{option_map}
use Rattle.mcs_trace.specs.Traces.{inference_of}
use Rattle.mcs_spelling.specs.Words.{step_of}
use Rattle.mcs_proof_lines.specs.Walks.{At, line_at}
use Rattle.mcs_proof_lines.proofs.WalkLemmas.{steps_pushed, fewer_lines}
use Rattle.mcs_proof_lines.proofs.evidence.take_steps.Goals as goal

pub loop-steps-smaller : goal.loop-steps-smaller
loop-steps-smaller c =
    let e : line_at step_of c.loop-steps.lines ≡ Some (inference_of c.in-Some.step) = sym c.in_ok-step.ensures ∙ ap (option_map inference_of) c.in-Some.is in
    subst (λ (at : At). length at.rest < length c.loop-steps.lines.rest) (sym c.advance.ensures) (fewer_lines step_of c.loop-steps.lines (inference_of c.in-Some.step) e)

pub loop-steps-preserved : goal.loop-steps-preserved
loop-steps-preserved c =
    let e : line_at step_of c.loop-steps.lines ≡ Some (inference_of c.in-Some.step) = sym c.in_ok-step.ensures ∙ ap (option_map inference_of) c.in-Some.is in
    steps_pushed c.loop-steps.steps.items c.push.new.self.items c.in-Some.step c.loop-steps.lines c.advance.new.self _ c.in_ok-push.ensures.items c.advance.ensures e c.loop-steps.invariant
