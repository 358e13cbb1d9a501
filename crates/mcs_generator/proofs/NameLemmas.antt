-- The names of a generated system are names, and differ.
use Rattle.std.proofs.Common.{◌≡◌, ℕ, ◌+◌, ◌^◌, ◌%◌, ◌<◌, ◌≤◌, true, IsTrue, List, [], ◌∷◌, ◌++◌, length, get_or, refl, ap, ◌∙◌, arith}
use Rattle.std.specs.Fmt.{decimal}
use Rattle.std.specs.List.{list_all}
use Rattle.std.proofs.lemmas.Bool.{and_from, or_right, le-leb}
use Rattle.std.proofs.lemmas.Fmt.{decimal_by_steps, decimal_injective, length-decimal-le}
use Rattle.std.proofs.lemmas.List.Folds.{list_all-append}
use Rattle.mcs_base.specs.Words.{is_letter, is_word_byte, is_name, is_between, keyword_bytes}
use Rattle.mcs_base.specs.declared.keyword.Keyword.{Keyword}
use Rattle.mcs_base.specs.declared.keyword.Keyword.TheVariants as words
use Rattle.mcs_base.proofs.WordLemmas.{name_from_word}
use Rattle.mcs_generator.specs.Generated.{context_name, reached_name, missed_name}

-- ---- a letter and a number are a name
digit_is_word_byte : (d : ℕ) → 48 ≤ d → d ≤ 57 → is_word_byte d ≡ true
digit_is_word_byte d low high = or_right (is_letter d) (is_between 48 57 d) (and_from _ _ (le-leb 48 d low) (le-leb d 57 high))

-- digits, of which the first is no letter
record AreDigits (ds : List ℕ) : Type 0 where
  all : list_all is_word_byte ds ≡ true
  first : get_or ds 0 0 ≤ 57

first_digit : (ds : List ℕ) (d : ℕ) → get_or ds 0 0 ≤ 57 → d ≤ 57 → get_or (ds ++ d ∷ []) 0 0 ≤ 57
first_digit [] d low last = last
first_digit (e ∷ ds) d low last = low

digits_are : (k : ℕ) → k < 2 ^ 64 → AreDigits (decimal k)
digits_are = decimal_by_steps (λ k ds. AreDigits ds)
    (λ k less. record { all = and_from (is_word_byte (48 + k)) true (digit_is_word_byte (48 + k) (omega arith) (omega arith)) refl; first = omega arith })
    (λ k ds more digits. record {
      all = list_all-append is_word_byte ds ((48 + k % 10) ∷ []) ∙ and_from (list_all is_word_byte ds) _ digits.all (and_from (is_word_byte (48 + k % 10)) true (digit_is_word_byte (48 + k % 10) (omega arith) (omega arith)) refl);
      first = first_digit ds (48 + k % 10) digits.first (omega arith);
    })

-- the second byte of a reserved word is a letter
second_letter : (w : Keyword) → 57 < get_or (keyword_bytes w) 1 0
second_letter words.Context = omega arith
second_letter words.Bridge = omega arith
second_letter words.Classical = omega arith
second_letter words.Default = omega arith
second_letter words.Program = omega arith
second_letter words.Not = omega arith
second_letter words.If = omega arith
second_letter words.True = omega arith
second_letter words.False = omega arith
second_letter words.Version = omega arith
second_letter words.Keep = omega arith
second_letter words.Closed = omega arith
second_letter words.Weight = omega arith
second_letter words.Autoepistemic = omega arith
second_letter words.Know = omega arith

pub numbered_is_name : (letter k : ℕ) → IsTrue (is_letter letter) → k < 2 ^ 32 → IsTrue (is_name (letter ∷ decimal k))
numbered_is_name letter k is small =
    let digits : AreDigits (decimal k) = digits_are k (omega arith) in
    let short : length (decimal k) ≤ 10 = length-decimal-le 10 k (omega arith) (omega arith) (omega arith) in
    name_from_word (letter ∷ decimal k) (and_from (is_letter letter) _ is digits.all)
    (λ w e. let second : get_or (decimal k) 0 0 ≡ get_or (keyword_bytes w) 1 0 = ap (λ (t : List ℕ). get_or t 1 0) e in let far = second_letter w in let near = digits.first in omega arith)
    (omega arith)

-- ---- one letter is a name
pub letter_is_name : (letter : ℕ) → IsTrue (is_letter letter) → IsTrue (is_name (letter ∷ []))
letter_is_name letter is = name_from_word (letter ∷ []) (and_from (is_letter letter) true is refl)
    (λ w e. let second : 0 ≡ get_or (keyword_bytes w) 1 0 = ap (λ (t : List ℕ). get_or t 1 0) e in let far = second_letter w in omega arith)
    (omega arith)

-- ---- names by number differ
pub context_names_differ : (i j : ℕ) → i < 100 → j < 100 → context_name i ≡ context_name j → i ≡ j
context_names_differ i j small small' e = let same : decimal i ≡ decimal j = cc in decimal_injective i j (omega arith) (omega arith) same

pub reached_names_differ : (i j : ℕ) → i < 100 → j < 100 → reached_name i ≡ reached_name j → i ≡ j
reached_names_differ i j small small' e = let same : decimal i ≡ decimal j = cc in decimal_injective i j (omega arith) (omega arith) same

pub missed_names_differ : (i j : ℕ) → i < 100 → j < 100 → missed_name i ≡ missed_name j → i ≡ j
missed_names_differ i j small small' e = let same : decimal i ≡ decimal j = cc in decimal_injective i j (omega arith) (omega arith) same

pub reached_is_not_missed : (i j : ℕ) → reached_name i ≡ missed_name j → ⊥
reached_is_not_missed i j e = let first : get_or (reached_name i) 0 0 ≡ get_or (missed_name j) 0 0 = ap (λ (t : List ℕ). get_or t 0 0) e in omega arith
