-- Numbers and literals, taken from the front of bytes one at a time.
use Rattle.std.specs.Prelude.{◌≡◌, ℕ, ◌≤◌, nat_eq, Bool, true, false, not, ◌&&◌, cond, List, [], ◌∷◌, length, take, drop, Option, Some, None, ℤ}
use Rattle.std.specs.List.{AllByRecursion}
use Rattle.std.specs.Option.{option_and_then, option_map}
use Rattle.mcs_spelling.specs.Words.{with_digit, signed, numbers_of}

-- no byte is a space
abbrev pub IsSpaceless : List ℕ → Type 0
IsSpaceless bytes = AllByRecursion (λ b. nat_eq b 32 ≡ false) bytes

-- they are none, or begin with a space
abbrev pub BeginsSpaced : List ℕ → Type 0
BeginsSpaced [] = Unit {0}
BeginsSpaced (b ∷ bytes) = b ≡ 32

-- the first word of the bytes ends here: at the first space, or at their end
pub record IsWordEnd (bytes : List ℕ) (end : ℕ) : Type 0 where
  pub within : end ≤ length bytes
  pub word : IsSpaceless (take end bytes)
  pub next : BeginsSpaced (drop end bytes)

-- ---- numbers
-- one for each word, where a space precedes each
abbrev pub spaced_numbers : List ℕ → Option (List ℕ)
spaced_numbers [] = Some []
spaced_numbers (b ∷ bytes) = numbers_of bytes

abbrev pub with_front : {A : Type 0} → A → Option (List A) → Option (List A)
with_front x o = option_map (λ xs. x ∷ xs) o

-- ---- literals
-- the literal that a word is: its digits so far, and whether it has a sign
abbrev pub nonzero : ℕ → Bool → Option ℤ
nonzero n is_negative = cond (nat_eq n 0) None (Some (signed n is_negative))

abbrev pub literal_from : ℕ → Bool → List ℕ → Option ℤ
literal_from n is_negative [] = nonzero n is_negative
literal_from n is_negative (b ∷ bytes) =
    cond (nat_eq b 45) (cond (nat_eq n 0 && not is_negative) (literal_from 0 true bytes) None) (option_and_then (λ next. literal_from next is_negative bytes) (with_digit n b))

abbrev pub literal_of : List ℕ → Option ℤ
literal_of word = literal_from 0 false word
