use Rattle.std.proofs.Common.{◌<◌, length, sym, ◌∙◌, subst}
use Rattle.mcs_spelling.specs.Words.{step_of}
use Rattle.mcs_proof_lines.specs.Walks.{At, line_at}
use Rattle.mcs_proof_lines.proofs.WalkLemmas.{fewer_lines}
use Rattle.mcs_base.proofs.Booleans.{none_from_not_some}
use Rattle.mcs_base.proofs.Results.{some_of}
use Rattle.mcs_steps.proofs.TraceLemmas.{no_trace, passed_first, passed_more, trace_passed}
use Rattle.mcs_steps.proofs.trace.pass_trace.Goals as goal

pub returns-then-not-is_step_next : goal.returns-then-not-is_step_next
returns-then-not-is_step_next c = rw c.out_of_place.ensures (no_trace c.args.lines.now (none_from_not_some (line_at step_of c.args.lines.now) (sym c.is_step_next.ensures ∙ c.if-not-is_step_next.true)))

pub loop-lines-init : goal.loop-lines-init
loop-lines-init c = passed_first c.args.lines.now

pub loop-lines-smaller : goal.loop-lines-smaller
loop-lines-smaller c =
    let (s, e) = some_of (line_at step_of c.loop-lines.lines) (sym c.is_step_next-in-loop-lines.ensures ∙ c.loop-lines-test.true) in
    subst (λ (at : At). length at.rest < length c.loop-lines.lines.rest) (sym c.advance.ensures) (fewer_lines step_of c.loop-lines.lines s e)

pub loop-lines-preserved : goal.loop-lines-preserved
loop-lines-preserved c =
    let (s, e) = some_of (line_at step_of c.loop-lines.lines) (sym c.is_step_next-in-loop-lines.ensures ∙ c.loop-lines-test.true) in
    passed_more _ c.loop-lines.lines c.advance.new.self s e c.advance.ensures c.loop-lines.invariant

pub returns : goal.returns
returns c =
    let (s, e) = some_of (line_at step_of c.args.lines.now) (sym c.is_step_next.ensures ∙ c.if-not-is_step_next.false) in
    trace_passed c.args.lines.now c.loop-lines.lines s e (none_from_not_some (line_at step_of c.loop-lines.lines) (sym c.is_step_next-in-loop-lines.ensures ∙ c.loop-lines-test.false)) c.loop-lines.invariant
