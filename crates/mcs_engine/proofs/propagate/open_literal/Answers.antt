use Rattle.std.proofs.Common.{◌≡◌, ℕ, ◌<◌, ◌∙◌, ◌⊎◌, List, ℤ, pos, neg_ℤ, get_or, length, inl, inr, sym, ap, subst, true≢false, FitsSigned, w64, to_z, of_z, to_z-of_z}
use Rattle.mcs_base.specs.Listings.{IsAmong}
use Rattle.mcs_base.proofs.Among.{among_at}
use Rattle.mcs_trace.specs.Clauses.{IsClause}
use Rattle.mcs_trace.proofs.OrderLemmas.{fits_literal, literal_at, same_literal}
use Rattle.mcs_engine.specs.Trails.{IsOn}
use Rattle.mcs_engine.proofs.FindingLemmas.{false_below-all, false_below-more}
use Rattle.mcs_engine.proofs.propagate.open_literal.Goals.{else-literal-other-via-then-literal-other+else-not-is_false, else-literal-other-via-else-literal-other}
use Rattle.mcs_engine.proofs.propagate.open_literal.Goals as goal

fits : (c : List ℤ) (i : ℕ) → IsClause c → i < length c → FitsSigned w64 (get_or c i (pos 0))
fits c i clause less = fits_literal (get_or c i (pos 0)) (literal_at c i clause less)

pub loop-literal-init : goal.loop-literal-init
loop-literal-init c = λ k among. inr among

pub loop-literal-preserved : goal.loop-literal-preserved
loop-literal-preserved c =
    let entries = c.args.trail.now.entries.items in
    let i : ℕ = c.loop-literal.literal-index in
    let x : ℤ = get_or c.args.literals.now i (pos 0) in
    let read : to_z w64 (of_z w64 x) ≡ x = to_z-of_z (fits c.args.literals.now i c.requires.0 c.loop-literal-test.true) in
    let other : ℤ = to_z w64 (of_z w64 c.args.other) in
    let read' : other ≡ c.args.other = to_z-of_z c.ranges.other in
    elim c.else-literal-other.branch [
      | else-literal-other-via-then-literal-other+else-not-is_false w ↦
          false_below-more entries c.args.literals.now other i c.loop-literal-test.true (inr (subst (λ (k : ℤ). IsOn entries (neg_ℤ k)) read (w.is_false.ensures.0 w.if-not-is_false.false))) c.loop-literal.invariant
      | else-literal-other-via-else-literal-other w ↦
          let same : x ≡ c.args.other = same_literal x c.args.other (fits c.args.literals.now i c.requires.0 c.loop-literal-test.true) c.ranges.other w.if-literal-other.false in
          false_below-more entries c.args.literals.now other i c.loop-literal-test.true (inl (same ∙ sym read')) c.loop-literal.invariant
    ]

pub returns-then-not-is_false : goal.returns-then-not-is_false
returns-then-not-is_false c =
    let i : ℕ = c.loop-literal.literal-index in
    let x : ℤ = get_or c.args.literals.now i (pos 0) in
    let read : to_z w64 (of_z w64 x) ≡ x = to_z-of_z (fits c.args.literals.now i c.requires.0 c.loop-literal-test.true) in (
      subst (λ (k : ℤ). IsAmong k c.args.literals.now) (sym read) (among_at c.args.literals.now i (pos 0) c.loop-literal-test.true),
      λ e. c.if-literal-other.true (ap (of_z w64) (sym read ∙ e)),
      λ off. true≢false (sym (c.is_false.ensures.1 off) ∙ c.if-not-is_false.true),
    )

pub returns : goal.returns
returns c = subst (λ (other : ℤ). (k : ℤ) → IsAmong k c.args.literals.now → (k ≡ other) ⊎ IsOn c.args.trail.now.entries.items (neg_ℤ k)) (to_z-of_z c.ranges.other)
    (false_below-all c.args.trail.now.entries.items c.args.literals.now (to_z w64 (of_z w64 c.args.other)) c.loop-literal.literal-index c.loop-literal-test.false c.loop-literal.invariant)
