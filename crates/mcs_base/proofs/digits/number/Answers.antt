use Rattle.std.proofs.Common.{◌≡◌, ◌≤◌, drop, arith}
use Rattle.mcs_base.specs.Numbers.{value_of_digits}
use Rattle.mcs_base.proofs.NumberLemmas.{value_after, with_next}
use Rattle.mcs_base.proofs.digits.number.Goals as goal

pub returns-in_err-checked_mul : goal.returns-in_err-checked_mul
returns-in_err-checked_mul c = rw c.from_residual.ensures (λ n h.
    let next = with_next c.loop-byte.n c.args.bytes.now c.loop-byte.byte-index c.loop-byte-test.true in
    let whole : value_after c.loop-byte.n (drop c.loop-byte.byte-index c.args.bytes.now) ≡ value_of_digits c.args.bytes.now = c.loop-byte.invariant.value in
    let is : value_of_digits c.args.bytes.now ≡ n = h.2 in
    let within : n ≤ c.args.most = h.4 in
    let most = c.ranges.most.fits in
    c.in_err-checked_mul.ensures (omega (arith, next, whole, is, within, most)))

pub returns-in_err-n : goal.returns-in_err-n
returns-in_err-n c = rw c.from_residual-in_err-n.ensures (λ n h.
    let next = with_next c.loop-byte.n c.args.bytes.now c.loop-byte.byte-index c.loop-byte-test.true in
    let whole : value_after c.loop-byte.n (drop c.loop-byte.byte-index c.args.bytes.now) ≡ value_of_digits c.args.bytes.now = c.loop-byte.invariant.value in
    let is : value_of_digits c.args.bytes.now ≡ n = h.2 in
    let within : n ≤ c.args.most = h.4 in
    let most = c.ranges.most.fits in
    let ten = c.in_ok-checked_mul.ensures in
    let digit = c.from.ensures in
    c.in_err-n.ensures (omega (arith, next, whole, is, within, most, ten, digit)))
