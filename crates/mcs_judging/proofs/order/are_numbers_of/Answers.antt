use Rattle.std.proofs.Common.{◌≡◌, ◌-◌, ◌∙◌, ℕ, length, take, drop, sym, ap, arith}
use Rattle.mcs_base.proofs.Booleans.{false_tells}
use Rattle.std.proofs.lemmas.Bool.{iff_false}
use Rattle.mcs_sets.specs.Sets.{single, minus}
use Rattle.mcs_extensions.proofs.OrderLemmas.{empty_tells}
use Rattle.mcs_steps.proofs.ChainLemmas.{some_bytes, no_bytes}
use Rattle.mcs_judging.specs.Theories.{numbers_in}
use Rattle.mcs_judging.proofs.Orders.{left_first, left_none, left_off, left_on, left_end}
use Rattle.mcs_judging.proofs.order.are_numbers_of.Goals as goal

pub loop-left-init : goal.loop-left-init
loop-left-init c = left_first c.args.set c.args.numbers.now c.requires

pub returns-in_default : goal.returns-in_default
returns-in_default c =
    let left = c.loop-left.left.now in
    let (b, is) = some_bytes left (sym c.is_empty.ensures ∙ c.loop-left-test.true) in
    absurd (left_none c.args.set c.loop-left.rest (numbers_in c.args.numbers.now) left c.loop-left.invariant b (take (length left - 1) (drop 1 left)) is c.in_default.ensures.read)

pub returns-then-not-is_numbered : goal.returns-then-not-is_numbered
returns-then-not-is_numbered c =
    let left = c.loop-left.left.now in
    let (b, is) = some_bytes left (sym c.is_empty.ensures ∙ c.loop-left-test.true) in
    false_tells (left_off c.args.set c.loop-left.rest (numbers_in c.args.numbers.now) left c.loop-left.invariant b c.in-Some.number (take (length left - 1) (drop 1 left)) c.in-Some.after.now is c.in-Some.ensures.read
    (iff_false c.is_numbered.ensures.exact c.if-not-is_numbered.true))

pub loop-left-preserved : goal.loop-left-preserved
loop-left-preserved c =
    let left = c.loop-left.left.now in
    let (b, is) = some_bytes left (sym c.is_empty.ensures ∙ c.loop-left-test.true) in
    let (k, number, there) = c.is_numbered.ensures.exact.0 c.if-not-is_numbered.false in
    let e : c.in-Some.number - 1 ≡ k = omega (arith, number) in
    left_on c.args.set c.loop-left.rest (numbers_in c.args.numbers.now) left c.loop-left.invariant b c.in-Some.number (take (length left - 1) (drop 1 left)) c.in-Some.after.now is c.in-Some.ensures.read
    k c.without-rest.result number there (c.without-rest.ensures ∙ ap (λ (j : ℕ). minus c.loop-left.rest (single j)) e)

pub returns : goal.returns
returns c = empty_tells c.eq.result c.loop-left.rest c.empty.result c.eq.ensures c.empty.ensures (left_end c.args.set c.loop-left.rest (numbers_in c.args.numbers.now) c.loop-left.left.now c.loop-left.invariant (no_bytes c.loop-left.left.now (sym c.is_empty.ensures ∙ c.loop-left-test.false)))
