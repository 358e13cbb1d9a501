use Rattle.std.proofs.Common.{length}
use Rattle.mcs_steps.proofs.TraceLemmas.{IsJudging}
use Rattle.mcs_steps.proofs.trace.judge_steps.Given as goal

abbrev pub invariant-loop-step : goal.invariant-loop-step
invariant-loop-step l = IsJudging l.clauses l.fn.lines l.lines l.judged l.derived

abbrev pub decreases-loop-step : goal.decreases-loop-step
decreases-loop-step l = length l.lines.rest
