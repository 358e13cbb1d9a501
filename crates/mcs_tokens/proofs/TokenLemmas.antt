-- What the scanner found is a token.
use Rattle.std.proofs.Common.{◌≢◌, ℕ, zero, suc, ◌<◌, IsTrue, List, [], ◌∷◌, ◌++◌, length, take, drop, refl, ap, ◌∙◌, inl, inr, arith}
use Rattle.std.specs.Prelude.{slice_index}
use Rattle.std.specs.Char.{is_ascii_digit}
use Rattle.std.specs.List.{list_all}
use Rattle.std.proofs.lemmas.Bool.{and_parts, and_from}
use Rattle.mcs_base.specs.Words.{is_letter, is_word_byte}
use Rattle.mcs_base.proofs.Lists.{drop-cons_within}
use Rattle.mcs_base.proofs.WordLemmas.{letter_is_word_byte, last_word_byte}
use Rattle.mcs_tokens.specs.Spelling.{sign_bytes}
use Rattle.mcs_tokens.specs.Tokens.{is_separator, hash, BeginsWith, IsWholeWord, IsWholeNumber, IsToken}
use Rattle.mcs_tokens.specs.declared.sign.Sign.{Sign}

whole_word : (n : ℕ) (text : List ℕ) → 0 < length text → IsTrue (is_letter (slice_index text 0)) → IsTrue (list_all is_word_byte (take n text)) → (n < length text → ¬ IsTrue (is_word_byte (slice_index text n)))
    → IsWholeWord (take n text) (drop n text)
whole_word n [] some letter word ended = absurd (omega (arith, some))
whole_word zero (b ∷ bs) some letter word ended = absurd (ended some (letter_is_word_byte b letter))
whole_word (suc n) (b ∷ bs) some letter word ended = record {
  word = and_from (is_letter b) _ letter ((and_parts (is_word_byte b) _ word).1);
  whole = λ c cs e longer.
      let there = drop-cons_within n bs c 0 cs e in
      let all : IsTrue (list_all is_word_byte (take n bs ++ c ∷ [])) = (and_parts (is_letter b) _ longer).1 in
      ended (omega (arith, there.0)) (ap is_word_byte there.1 ∙ last_word_byte (take n bs) c all);
}

pub word_token : (n : ℕ) (text : List ℕ) → 0 < length text → IsTrue (is_letter (slice_index text 0)) → IsTrue (list_all is_word_byte (take n text)) → (n < length text → ¬ IsTrue (is_word_byte (slice_index text n)))
    → IsToken (take n text) (drop n text)
word_token n text some letter word ended = inl (whole_word n text some letter word ended)

whole_number : (n : ℕ) (text : List ℕ) → 0 < length text → IsTrue (is_ascii_digit (slice_index text 0)) → IsTrue (list_all is_ascii_digit (take n text)) → (n < length text → ¬ IsTrue (is_ascii_digit (slice_index text n)))
    → IsWholeNumber (take n text) (drop n text)
whole_number n [] some digit digits ended = absurd (omega (arith, some))
whole_number zero (b ∷ bs) some digit digits ended = absurd (ended some digit)
whole_number (suc n) (b ∷ bs) some digit digits ended = record {
  number = digits;
  whole = λ c cs e longer. let there = drop-cons_within n bs c 0 cs e in ended (omega (arith, there.0)) (ap is_ascii_digit there.1 ∙ longer);
}

pub number_token : (n : ℕ) (text : List ℕ) → 0 < length text → IsTrue (is_ascii_digit (slice_index text 0)) → IsTrue (list_all is_ascii_digit (take n text)) → (n < length text → ¬ IsTrue (is_ascii_digit (slice_index text n)))
    → IsToken (take n text) (drop n text)
number_token n text some digit digits ended = inr (inr (inl (whole_number n text some digit digits ended)))

pub stray_token : (text : List ℕ) → 0 < length text → ¬ IsTrue (is_letter (slice_index text 0)) → ¬ IsTrue (is_ascii_digit (slice_index text 0)) → ¬ IsTrue (is_separator (slice_index text 0)) → slice_index text 0 ≢ hash → ((s : Sign) → ¬ BeginsWith text (sign_bytes s))
    → IsToken (take 1 text) (drop 1 text)
stray_token [] some no_letter no_digit no_separator no_comment no_sign = absurd (omega (arith, some))
stray_token (b ∷ bs) some no_letter no_digit no_separator no_comment no_sign = inr (inr (inr (record {
  byte = b;
  one = refl;
  no_letter = no_letter;
  no_digit = no_digit;
  no_sign = no_sign;
  no_separator = no_separator;
  no_comment = no_comment;
})))
