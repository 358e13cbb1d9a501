use Rattle.std.proofs.Common.{◌≡◌, ◌-◌, ◌≤◌, ◌∙◌, ℕ, get_or, refl, ap, arith}
use Rattle.mcs_base.proofs.Booleans.{false_tells}
use Rattle.mcs_sets.specs.Sets.{single, minus}
use Rattle.std.proofs.lemmas.Bool.{iff_false}
use Rattle.mcs_extensions.proofs.OrderLemmas.{numbers_on, numbers_off, numbers_done, empty_tells}
use Rattle.mcs_extensions.proofs.order.are_numbers.Goals as goal

pub loop-number-init : goal.loop-number-init
loop-number-init c = (λ h. h, λ h. h)

pub without-left-requires : goal.without-left-requires
without-left-requires c =
    let (k, is, there) = c.is_member.ensures.exact.0 c.if-not-is_member.false in
    let low : get_or c.args.numbers.now c.loop-number.number-index 0 ≤ 64 = c.is_member.ensures.low c.if-not-is_member.false in
    omega arith

pub loop-number-preserved : goal.loop-number-preserved
loop-number-preserved c =
    let i = c.loop-number.number-index in
    let n : ℕ = get_or c.args.numbers.now i 0 in
    let (k, is, there) = c.is_member.ensures.exact.0 c.if-not-is_member.false in
    let e : n - 1 ≡ k = omega arith in
    numbers_on c.args.set c.args.numbers.now c.loop-number.left c.without-left.result i n k c.loop-number-test.true refl is there
    (c.without-left.ensures ∙ ap (λ (j : ℕ). minus c.loop-number.left (single j)) e) c.loop-number.invariant

pub returns-then-not-is_member : goal.returns-then-not-is_member
returns-then-not-is_member c =
    false_tells (numbers_off c.args.set c.args.numbers.now c.loop-number.left c.loop-number.number-index (get_or c.args.numbers.now c.loop-number.number-index 0) c.loop-number-test.true refl
    (iff_false c.is_member.ensures.exact c.if-not-is_member.true) c.loop-number.invariant)

pub returns : goal.returns
returns c = empty_tells c.eq.result c.loop-number.left c.empty.result c.eq.ensures c.empty.ensures (numbers_done c.args.set c.args.numbers.now c.loop-number.left c.loop-number.number-index c.loop-number-test.false c.loop-number.invariant)
