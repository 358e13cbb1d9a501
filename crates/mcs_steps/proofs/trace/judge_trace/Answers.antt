use Rattle.std.proofs.Common.{ℤ, List, sym, ◌∙◌, subst}
use Rattle.mcs_trace.specs.Traces.{IsAcceptedTrace}
use Rattle.mcs_spelling.specs.Words.{step_of}
use Rattle.mcs_proof_lines.specs.Walks.{line_at, trace_at}
use Rattle.mcs_steps.specs.Judging.{IsJudged}
use Rattle.mcs_base.proofs.Booleans.{none_from_not_some}
use Rattle.mcs_base.proofs.Results.{some_of}
use Rattle.mcs_steps.proofs.TraceLemmas.{no_trace, trace_told}
use Rattle.mcs_steps.proofs.trace.judge_trace.Goals as goal

pub returns-then-not-is_step_next : goal.returns-then-not-is_step_next
returns-then-not-is_step_next c = rw c.out_of_place.ensures (no_trace c.args.lines.now (none_from_not_some (line_at step_of c.args.lines.now) (sym c.is_step_next.ensures ∙ c.if-not-is_step_next.true)))

pub returns : goal.returns
returns c =
    let (s, e) = some_of (line_at step_of c.args.lines.now) (sym c.is_step_next.ensures ∙ c.if-not-is_step_next.false) in
    subst (λ (clauses : List (List ℤ)). IsJudged (IsAcceptedTrace clauses) c.is_accepted.result c.judge_steps.new.lines (trace_at c.args.lines.now)) c.clauses.ensures.value
    (trace_told c.clauses.result.now c.args.lines.now c.judge_steps.new.lines s c.in_ok-judged.judged c.is_accepted.result e c.in_ok-judged.ensures c.is_accepted.ensures)
