use Rattle.std.proofs.Common.{ℕ, ◌≤◌, sym, ◌∙◌, subst}
use Rattle.mcs_grounded.proofs.Loops.{gathered_first, gathered_next, gathered_last, same_number, more_in_number}
use Rattle.mcs_grounded.proofs.normal.dependent.Goals as goal

pub loop-more-init : goal.loop-more-init
loop-more-init c = gathered_first c.args.rules.now c.args.start

pub loop-more-preserved : goal.loop-more-preserved
loop-more-preserved c = gathered_next c.args.rules.now c.args.start c.loop-more.places c.with_bodies-more.result c.loop-more.invariant c.with_bodies-more.ensures

pub loop-more-smaller : goal.loop-more-smaller
loop-more-smaller c = more_in_number c.loop-more.places c.with_bodies-more.result c.with_bodies-more.ensures.more_than (subst (λ (n : ℕ). n ≤ 64) c.count.ensures.number c.count.ensures.few)
    (λ same. c.if-count.false (c.count.ensures.number ∙ same ∙ sym c.count-in-loop-more.ensures.number))

pub returns-then-count : goal.returns-then-count
returns-then-count c = gathered_last c.args.rules.now c.args.start c.loop-more.places c.with_bodies-more.result c.loop-more.invariant c.with_bodies-more.ensures
    (same_number c.loop-more.places c.with_bodies-more.result c.with_bodies-more.ensures.more_than (sym c.count.ensures.number ∙ c.if-count.true ∙ c.count-in-loop-more.ensures.number))
