use Rattle.std.proofs.Common.{refl}
use Rattle.std.proofs.lemmas.Bool.{not-true, not-false}
use Rattle.mcs_steps.proofs.TraceLemmas.{spelled_empty, on_wrong, on_judged}
use Rattle.mcs_steps.proofs.trace.judge_next.Goals as goal

pub returns-then-not-judged : goal.returns-then-not-judged
returns-then-not-judged c = λ s spells.
    on_wrong c.args.clauses.now c.args.derived.now c.args.derived.now s c.args.judged _ (spelled_empty c.args.step s spells c.is_empty-ends_empty.result c.is_empty-ends_empty.ensures) c.requires (not-true c.args.judged.are_right c.if-not-judged.true) refl refl

pub returns : goal.returns
returns c = λ s spells.
    on_judged c.args.clauses.now c.args.derived.now c.judge_step.new.derived s c.args.judged _ (spelled_empty c.args.step s spells c.is_empty-ends_empty.result c.is_empty-ends_empty.ensures) c.requires (not-false c.args.judged.are_right c.if-not-judged.false) spells.clause
    (c.in_ok-are_right.ensures s spells)
