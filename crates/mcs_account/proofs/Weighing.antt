-- The weight of a rule, digit by digit, up to the greatest number.
use Rattle.std.proofs.Common.{◌≡◌, List, [], ◌∷◌, ℕ, ◌+◌, ◌*◌, ◌-◌, ◌<◌, ◌≤◌, zero, suc, length, drop, get_or, refl, ap, arith}
use Rattle.std.specs.Prelude.{min}
use Rattle.std.proofs.lemmas.List.{at_drop_more}
use Rattle.mcs_base.proofs.NumberLemmas.{value_after}
use Rattle.mcs_account.specs.Account.{greatest_number}

-- what is cut off is cut off in the end
pub capped-after : (n m : ℕ) (digits : List ℕ) → min n greatest_number ≡ min m greatest_number → min (value_after n digits) greatest_number ≡ min (value_after m digits) greatest_number
capped-after n m [] h = h
capped-after n m (d ∷ digits) h = capped-after (n * 10 + (d - 48)) (m * 10 + (d - 48)) digits (omega (arith, h))

pub next-digit : (n : ℕ) (digits : List ℕ) (i : ℕ) → i < length digits → value_after n (drop i digits) ≡ value_after (n * 10 + (get_or digits i 0 - 48)) (drop (i + 1) digits)
next-digit n digits i less = ap (value_after n) (at_drop_more (λ (ds : List ℕ). ds) digits i 0 less)

pub none-left : (n : ℕ) (digits : List ℕ) (i : ℕ) → length digits ≤ i → value_after n (drop i digits) ≡ n
none-left n digits i past = ap (value_after n) (drop-past digits i past)
  where
    drop-past : (ds : List ℕ) (i : ℕ) → length ds ≤ i → drop i ds ≡ []
    drop-past [] zero h = refl
    drop-past [] (suc i) h = refl
    drop-past (d ∷ ds) zero h = absurd (omega arith)
    drop-past (d ∷ ds) (suc i) h = drop-past ds i (omega arith)
