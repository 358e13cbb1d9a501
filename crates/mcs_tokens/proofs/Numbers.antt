-- What is known of numbers: they are not empty, begin with a digit, and have digits alone; and how a number is written in decimal.
use Rattle.std.proofs.Common.{◌≡◌, ◌≢◌, ℕ, ◌+◌, ◌*◌, ◌-◌, ◌^◌, ◌<◌, ◌≤◌, true, false, IsTrue, List, [], ◌∷◌, ◌++◌, length, refl, sym, ◌∙◌, inl, inr, arith, true≢false}
use Rattle.std.specs.Prelude.{slice_index}
use Rattle.std.specs.Char.{is_ascii_digit}
use Rattle.std.specs.Fmt.{decimal}
use Rattle.std.specs.List.{list_all}
use Rattle.std.proofs.lemmas.Bool.{and_parts, and_from, cases_lt}
use Rattle.std.proofs.lemmas.Bool.Decides.{nat_tests}
use Rattle.std.proofs.lemmas.Fmt.{decimal_nonempty, first_decimal, digits_decimal, digits_value-decimal}
use Rattle.std.proofs.lemmas.Str.Parse.{IsDigitsTest, IsNumeralModel, numerals_by_fold}
use Rattle.std.proofs.lemmas.List.Folds.{list_all-append}
use Rattle.mcs_base.specs.Numbers.{value_of_digits}
use Rattle.mcs_base.specs.Words.{is_letter, is_word_byte, is_word}
use Rattle.mcs_base.proofs.NumberLemmas.{value_after, grows, is_digit}
use Rattle.mcs_tokens.specs.Kinds.{zero_digit}
use Rattle.mcs_tokens.specs.Tokens.{is_number}

pub letter_no_digit : (b : ℕ) → IsTrue (is_letter b) → is_ascii_digit b ≡ false
letter_no_digit b h = grind (arith, nat_tests)

pub digit_no_letter : (b : ℕ) → IsTrue (is_ascii_digit b) → is_letter b ≡ false
digit_no_letter b h = grind (arith, nat_tests)

pub digit_is_word_byte : (b : ℕ) → IsTrue (is_ascii_digit b) → is_word_byte b ≡ true
digit_is_word_byte b h = grind (arith, nat_tests)

pub number_begins : (t : List ℕ) → IsTrue (is_number t) → (0 < length t) × IsTrue (is_ascii_digit (slice_index t 0))
number_begins [] h = absurd (true≢false (sym h))
number_begins (b ∷ bs) h = (omega arith, (and_parts (is_ascii_digit b) _ h).0)

pub number_no_word : (t : List ℕ) → IsTrue (is_number t) → is_word t ≡ false
number_no_word [] h = refl
number_no_word (b ∷ bs) h = rw (digit_no_letter b (and_parts (is_ascii_digit b) _ h).0) refl

pub digit_there : (t : List ℕ) (c : ℕ) (m : List ℕ) → IsTrue (is_number (t ++ c ∷ m)) → IsTrue (is_ascii_digit c)
digit_there [] c m h = (and_parts (is_ascii_digit c) _ h).0
digit_there (b ∷ t) c m h =
    let all : IsTrue (list_all is_ascii_digit (t ++ c ∷ m)) = (and_parts (is_ascii_digit b) _ h).1 in
    let last : IsTrue (list_all is_ascii_digit (c ∷ m)) = (and_parts (list_all is_ascii_digit t) _ (sym (list_all-append is_ascii_digit t (c ∷ m)) ∙ all)).1 in
    (and_parts (is_ascii_digit c) _ last).0

-- ---- a number that does not begin with `0` is not 0
pub some_value : (t : List ℕ) → IsTrue (is_number t) → slice_index t 0 ≢ zero_digit → 1 ≤ value_of_digits t
some_value [] h other = absurd (true≢false (sym h))
some_value (b ∷ bs) h other =
    let digit = is_digit b (and_parts (is_ascii_digit b) _ h).0 in
    let least : 0 * 10 + (b - 48) ≤ value_of_digits (b ∷ bs) = grows (0 * 10 + (b - 48)) bs in
    elim (cases_lt 48 b) [ inl less ↦ omega (arith, least, less) | inr past ↦ absurd (other (omega (arith, digit.0, past))) ]

-- ---- in decimal
digit_is : (d : ℕ) → 48 ≤ d → d ≤ 57 → IsTrue (is_ascii_digit d)
digit_is d low high = grind (arith, nat_tests)

abbrev AreDigits : List ℕ → Type 0
AreDigits ds = IsTrue (list_all is_ascii_digit ds)

tells_digits : IsDigitsTest AreDigits
tells_digits = record {
  empty = refl;
  parts = λ c cs h. let both = and_parts (is_ascii_digit c) _ h in (is_digit c both.0, both.1);
  more = λ c cs digit h. and_from (is_ascii_digit c) _ (digit_is c digit.0 digit.1) h;
}

digits_told : IsNumeralModel AreDigits value_of_digits
digits_told = numerals_by_fold AreDigits tells_digits value_after (record { empty = λ n. refl; more = λ n c cs digit. refl })

number_of_digits : (ds : List ℕ) → 0 < length ds → AreDigits ds → IsTrue (is_number ds)
number_of_digits [] some h = absurd (omega (arith, some))
number_of_digits (b ∷ bs) some h = h

pub record IsDecimal (n : ℕ) (digits : List ℕ) : Type 0 where
  pub number : IsTrue (is_number digits)
  pub value : value_of_digits digits ≡ n
  pub first : 0 < n → slice_index digits 0 ≢ zero_digit

pub decimal_is : (n : ℕ) → n < 2 ^ 64 → IsDecimal n (decimal n)
decimal_is n small = record {
  number = number_of_digits (decimal n) (decimal_nonempty n small) (digits_decimal digits_told n small);
  value = digits_value-decimal digits_told n small;
  first = λ some e. let first = first_decimal n some small in absurd (omega (arith, first, e));
}
