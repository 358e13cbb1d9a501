-- Decimal numbers, digit by digit.
use Rattle.std.proofs.Common.{◌≡◌, List, ℕ, ◌+◌, ◌*◌, ◌-◌, ◌≤◌, true, false, [], ◌∷◌, ◌<◌, length, drop, get_or, fold, arith}
use Rattle.std.specs.Char.{is_ascii_digit}
use Rattle.std.proofs.lemmas.Bool.Decides.{nat_tests}
use Rattle.std.proofs.lemmas.List.{at_drop_more}
use Rattle.mcs_base.specs.Numbers.{IsDigit}

-- the value of digits after a number
abbrev pub value_after : ℕ → List ℕ → ℕ
value_after n digits = fold (λ n digit. n * 10 + (digit - 48)) n digits

pub grows : (n : ℕ) (digits : List ℕ) → n ≤ value_after n digits
grows n [] = omega arith
grows n (digit ∷ digits) = let rest : n * 10 + (digit - 48) ≤ value_after (n * 10 + (digit - 48)) digits = grows (n * 10 + (digit - 48)) digits in omega arith

-- with the digit at place i at least what is read so far, and this one
pub with_next : (n : ℕ) (bytes : List ℕ) (i : ℕ) → i < length bytes → n * 10 + (get_or bytes i 0 - 48) ≤ value_after n (drop i bytes)
with_next n bytes i less = rw (at_drop_more (λ (bs : List ℕ). bs) bytes i 0 less) (grows (n * 10 + (get_or bytes i 0 - 48)) (drop (i + 1) bytes))

pub is_digit : (b : ℕ) → is_ascii_digit b ≡ true → IsDigit b
is_digit b e = grind (arith, nat_tests)

pub no_digit : (b : ℕ) → is_ascii_digit b ≡ false → ¬ IsDigit b
no_digit b e = grind (arith, nat_tests)
