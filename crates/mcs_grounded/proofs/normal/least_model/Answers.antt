use Rattle.std.proofs.Common.{ℕ, ◌≤◌, sym, ◌∙◌, subst}
use Rattle.mcs_grounded.proofs.Loops.{up_to_first, up_to_next, up_to_last, same_number, more_in_number}
use Rattle.mcs_grounded.proofs.normal.least_model.Goals as goal

pub loop-against-init : goal.loop-against-init
loop-against-init c = up_to_first c.args.rules.now c.args.against c.args.start

pub loop-against-preserved : goal.loop-against-preserved
loop-against-preserved c = up_to_next c.args.rules.now c.args.against c.args.start c.loop-against.places c.with_heads-more.result c.loop-against.invariant c.with_heads-more.ensures

pub loop-against-smaller : goal.loop-against-smaller
loop-against-smaller c = more_in_number c.loop-against.places c.with_heads-more.result c.with_heads-more.ensures.more_than (subst (λ (n : ℕ). n ≤ 64) c.count.ensures.number c.count.ensures.few)
    (λ same. c.if-count.false (c.count.ensures.number ∙ same ∙ sym c.count-in-loop-against.ensures.number))

pub returns-then-count : goal.returns-then-count
returns-then-count c = up_to_last c.args.rules.now c.args.against c.args.start c.loop-against.places c.with_heads-more.result c.loop-against.invariant c.with_heads-more.ensures
    (same_number c.loop-against.places c.with_heads-more.result c.with_heads-more.ensures.more_than (sym c.count.ensures.number ∙ c.if-count.true ∙ c.count-in-loop-against.ensures.number))
