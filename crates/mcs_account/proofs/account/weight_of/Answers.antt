use Rattle.std.proofs.Common.{◌≡◌, ℕ, ◌+◌, ◌*◌, ◌-◌, sym, ap, ◌∙◌, drop, get_or, arith}
use Rattle.std.specs.Prelude.{min}
use Rattle.mcs_account.specs.Account.{greatest_number}
use Rattle.mcs_account.proofs.Weighing.{capped-after, next-digit, none-left}
use Rattle.mcs_account.proofs.account.weight_of.Goals as goal

pub loop-digit-preserved : goal.loop-digit-preserved
loop-digit-preserved c =
    let ds = c.args.digits.now in
    let i = c.loop-digit.digit-index in
    let w = c.loop-digit.weight in
    let next : ℕ = w * 10 + (get_or ds i 0 - 48) in
    let sum = c.saturating_add-weight.ensures in
    let product = c.saturating_mul.ensures in
    let digit = c.saturating_sub.ensures in
    let value = c.from-value.ensures in
    record {
      fits = omega (arith, sum);
      whole = capped-after c.saturating_add-weight.result next (drop (i + 1) ds) (omega (arith, sum, product, digit, value))
          ∙ ap (λ (v : ℕ). min v greatest_number) (sym (next-digit w ds i c.loop-digit-test.true)) ∙ c.loop-digit.invariant.whole;
    }

pub returns : goal.returns
returns c =
    let left = none-left c.loop-digit.weight c.args.digits.now c.loop-digit.digit-index c.loop-digit-test.false in
    let fits = c.loop-digit.invariant.fits in
    let kept : c.loop-digit.weight ≡ min c.loop-digit.weight greatest_number = omega (arith, fits) in
    kept ∙ ap (λ (v : ℕ). min v greatest_number) (sym left) ∙ c.loop-digit.invariant.whole
