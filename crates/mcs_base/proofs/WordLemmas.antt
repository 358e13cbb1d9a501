-- Words and names: where a word ends, and what a name is.
use Rattle.std.proofs.Common.{◌≡◌, ◌<◌, ◌≤◌, ℕ, true, false, not, IsTrue, List, [], ◌∷◌, ◌++◌, length, refl, sym, subst, ◌∙◌, arith, true≢false, append_assoc}
use Rattle.std.specs.Prelude.{nat_le, slice_index}
use Rattle.std.specs.List.{list_all}
use Rattle.std.proofs.lemmas.List.Folds.{list_all-append}
use Rattle.std.proofs.lemmas.Bool.{and_parts, and_from, or_left, false_from_ne_true, not_from_false, le-leb}
use Rattle.std.proofs.lemmas.Bool.Decides.{nat_tests}
use Rattle.mcs_base.specs.Words.{is_letter, is_word_byte, is_word, is_name, is_reserved, keyword_bytes, reserved_words, most_name_bytes}
use Rattle.mcs_base.specs.declared.keyword.Keyword.{Keyword}
use Rattle.mcs_base.specs.declared.keyword.Keyword.TheVariants as words
use Rattle.mcs_base.proofs.KeywordLemmas.{reserved_is}

-- ---- words
pub letter_is_word_byte : (b : ℕ) → IsTrue (is_letter b) → IsTrue (is_word_byte b)
letter_is_word_byte b h = or_left (is_letter b) _ h

pub last_word_byte : (t : List ℕ) (b : ℕ) → IsTrue (list_all is_word_byte (t ++ b ∷ [])) → IsTrue (is_word_byte b)
last_word_byte t b h =
    let last : IsTrue (list_all is_word_byte (b ∷ [])) = (and_parts (list_all is_word_byte t) _ (sym (list_all-append is_word_byte t (b ∷ [])) ∙ h)).1 in
    (and_parts (is_word_byte b) _ last).0

pub longer_word : (t : List ℕ) (b : ℕ) → IsTrue (is_word t) → IsTrue (is_word (t ++ b ∷ [])) → IsTrue (is_word_byte b)
longer_word [] b h k = absurd (true≢false (sym h))
longer_word (x ∷ xs) b h k = last_word_byte xs b ((and_parts (is_letter x) _ k).1)

pub word_begins : (t : List ℕ) → IsTrue (is_word t) → (0 < length t) × IsTrue (is_letter (slice_index t 0))
word_begins [] h = absurd (true≢false (sym h))
word_begins (b ∷ bs) h = (omega arith, (and_parts (is_letter b) _ h).0)

pub word_front : (t : List ℕ) (c : ℕ) (m : List ℕ) → IsTrue (is_word t) → IsTrue (is_word (t ++ c ∷ m)) → IsTrue (is_word (t ++ c ∷ []))
word_front [] c m h k = absurd (true≢false (sym h))
word_front (b ∷ t) c m h k =
    let all : IsTrue (list_all is_word_byte (t ++ c ∷ m)) = (and_parts (is_letter b) _ k).1 in
    let last : IsTrue (list_all is_word_byte (c ∷ m)) = (and_parts (list_all is_word_byte t) _ (sym (list_all-append is_word_byte t (c ∷ m)) ∙ all)).1 in
    let c_is : IsTrue (list_all is_word_byte (c ∷ [])) = and_from (is_word_byte c) _ ((and_parts (is_word_byte c) _ last).0) refl in
    and_from (is_letter b) _ ((and_parts (is_letter b) _ h).0) (list_all-append is_word_byte t (c ∷ []) ∙ and_from (list_all is_word_byte t) _ ((and_parts (is_letter b) _ h).1) c_is)

-- no word goes on
abbrev pub EndsWord : List ℕ → Type 0
EndsWord [] = Unit {0}
EndsWord (b ∷ bs) = is_word_byte b ≡ false

pub past_word : (b : ℕ) (bs next : List ℕ) → next ≡ b ∷ bs → EndsWord next → is_word_byte b ≡ false
past_word b bs next e h = let h' : EndsWord (b ∷ bs) = subst EndsWord e h in h'

pub ends_regrouped : (a b next : List ℕ) → EndsWord (a ++ (b ++ next)) → EndsWord ((a ++ b) ++ next)
ends_regrouped a b next h = subst EndsWord (sym (append_assoc a b next)) h

-- ---- reserved words and names
pub keyword_word : (k : Keyword) → (is_word (keyword_bytes k) ≡ true) × (is_reserved (keyword_bytes k) ≡ true)
unfolding reserved_words
keyword_word words.Context = (refl, refl)
keyword_word words.Bridge = (refl, refl)
keyword_word words.Classical = (refl, refl)
keyword_word words.Default = (refl, refl)
keyword_word words.Program = (refl, refl)
keyword_word words.Not = (refl, refl)
keyword_word words.If = (refl, refl)
keyword_word words.True = (refl, refl)
keyword_word words.False = (refl, refl)
keyword_word words.Version = (refl, refl)
keyword_word words.Keep = (refl, refl)
keyword_word words.Closed = (refl, refl)
keyword_word words.Weight = (refl, refl)
keyword_word words.Autoepistemic = (refl, refl)
keyword_word words.Know = (refl, refl)

pub name_from_word : (t : List ℕ) → IsTrue (is_word t) → ((k : Keyword) → ¬ (t ≡ keyword_bytes k)) → length t ≤ most_name_bytes → IsTrue (is_name t)
name_from_word t h free short =
    let new : is_reserved t ≡ false = false_from_ne_true (is_reserved t) (λ e. let r = reserved_is t e in free r.0 r.1) in
    and_from (is_word t) _ h (and_from (not (is_reserved t)) _ (not_from_false (is_reserved t) new) (le-leb (length t) most_name_bytes short))

pub name_is_word : (t : List ℕ) → IsTrue (is_name t) → IsTrue (is_word t)
name_is_word t h = (and_parts (is_word t) _ h).0

pub name_is_short : (t : List ℕ) → IsTrue (is_name t) → length t ≤ most_name_bytes
name_is_short t h = let short : IsTrue (nat_le (length t) most_name_bytes) = (and_parts (not (is_reserved t)) _ ((and_parts (is_word t) _ h).1)).1 in grind (arith, nat_tests)
