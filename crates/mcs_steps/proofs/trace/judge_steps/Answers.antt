use Rattle.std.proofs.Common.{◌<◌, length, refl, sym, subst}
use Rattle.mcs_spelling.specs.Words.{step_of}
use Rattle.mcs_proof_lines.specs.Walks.{At}
use Rattle.mcs_proof_lines.proofs.WalkLemmas.{fewer_lines}
use Rattle.mcs_steps.proofs.TraceLemmas.{judging_first, judging_more, judging_end}
use Rattle.mcs_steps.proofs.trace.judge_steps.Goals as goal

pub loop-step-init : goal.loop-step-init
loop-step-init c = judging_first c.args.clauses.now c.args.lines.now _ c.new-derived.result refl refl c.new-derived.ensures

pub loop-step-smaller : goal.loop-step-smaller
loop-step-smaller c =
    subst (λ (at : At). length at.rest < length c.loop-step.lines.rest) (sym c.advance.ensures) (fewer_lines step_of c.loop-step.lines c.in-Some.ensures.step c.in-Some.ensures.is)

pub loop-step-preserved : goal.loop-step-preserved
loop-step-preserved c =
    judging_more c.args.clauses.now c.args.lines.now c.loop-step.lines c.advance.new.self c.loop-step.judged c.in_ok-judged.judged c.loop-step.derived c.judge_next.new.derived c.loop-step.invariant c.in-Some.ensures.step c.in-Some.ensures.is
    c.advance.ensures (c.in_ok-judged.ensures c.in-Some.ensures.step c.in-Some.ensures.spells)

pub returns : goal.returns
returns c = judging_end c.args.clauses.now c.args.lines.now c.loop-step.lines c.loop-step.lines c.loop-step.judged c.loop-step.judged c.loop-step.derived c.loop-step.derived c.loop-step.invariant c.in_default.ensures
