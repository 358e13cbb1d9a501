use Rattle.std.proofs.Common.{◌≡◌, ◌+◌, ℤ, neg_ℤ, drop, get_or, pos, sym, ap, ◌∙◌, subst, true, false, Some, to_z-of_z}
use Rattle.mcs_base.specs.Listings.{IsAmong}
use Rattle.mcs_trace.specs.Clauses.{IsLiteral}
use Rattle.mcs_trace.proofs.OrderLemmas.{literal_at, fits_literal, turned}
use Rattle.mcs_trace.proofs.ClashLemmas.{ClashSoFar, clash-skip, clash-none, clash-one, clash-two, clash-end}
use Rattle.mcs_trace.proofs.resolvent.only_clash.Goals.{then-is_next+else-is_some, else-is_next}
use Rattle.mcs_trace.proofs.resolvent.only_clash.Goals as goal

pub returns-then-is_some : goal.returns-then-is_some
returns-then-is_some c =
    let first = c.args.first.now in
    let second = c.args.second.now in
    let i = c.loop-literal.literal-index in
    let j = c.skip_smaller-index.result in
    let is : IsLiteral (get_or first i (pos 0)) = literal_at first i c.requires.first c.loop-literal-test.true in
    let here : IsAmong (neg_ℤ (get_or first i (pos 0))) (drop j second) =
    subst (λ (k : ℤ). IsAmong k (drop j second)) (turned (get_or first i (pos 0)) is) (c.is_next.ensures.0 c.if-is_next.true) in
    clash-two first second i j c.loop-literal.found c.loop-literal-test.true (sym c.is_some.ensures ∙ c.if-is_some.true)
    (clash-skip first second i c.loop-literal.index j c.unsigned_abs.result c.loop-literal.found c.requires.first c.loop-literal-test.true c.unsigned_abs.ensures.value c.skip_smaller-index.ensures.bound c.skip_smaller-index.ensures.kept c.loop-literal.invariant)
    here

pub loop-literal-preserved : goal.loop-literal-preserved
loop-literal-preserved c =
    let first = c.args.first.now in
    let second = c.args.second.now in
    let i = c.loop-literal.literal-index in
    let j = c.skip_smaller-index.result in
    let x : ℤ = get_or first i (pos 0) in
    let is : IsLiteral x = literal_at first i c.requires.first c.loop-literal-test.true in
    let skipped : ClashSoFar first second i j c.loop-literal.found =
    clash-skip first second i c.loop-literal.index j c.unsigned_abs.result c.loop-literal.found c.requires.first c.loop-literal-test.true c.unsigned_abs.ensures.value c.skip_smaller-index.ensures.bound c.skip_smaller-index.ensures.kept c.loop-literal.invariant in
    elim c.if-is_next.branch [
      | then-is_next+else-is_some w ↦
          let here : IsAmong (neg_ℤ x) (drop j second) = subst (λ (k : ℤ). IsAmong k (drop j second)) (turned x is) (c.is_next.ensures.0 w.if-is_next.true) in
          let found : c.if-is_next.found ≡ Some x = w.found-is ∙ ap Some (to_z-of_z (fits_literal x is)) in
          subst (ClashSoFar first second (i + 1) j) (sym found) (clash-one first second i j c.loop-literal.found c.requires.first c.loop-literal-test.true (sym w.is_some.ensures ∙ w.if-is_some.false) skipped here)
      | else-is_next w ↦
          subst (ClashSoFar first second (i + 1) j) (sym w.found-is) (clash-none first second i j c.loop-literal.found c.loop-literal-test.true skipped
          (λ here. let yes : c.is_next.result ≡ true = c.is_next.ensures.1 (subst (λ (k : ℤ). IsAmong k (drop j second)) (sym (turned x is)) here) in let no : c.is_next.result ≡ false = w.if-is_next.false in cc))
    ]

pub returns : goal.returns
returns c = clash-end c.args.first.now c.args.second.now c.loop-literal.literal-index c.loop-literal.index c.loop-literal.found c.loop-literal-test.false c.loop-literal.invariant
