-- The next token is the only one, and tokens and gaps make up the text.
use Rattle.std.proofs.Common.{◌≡◌, ◌≢◌, ℕ, ◌+◌, ◌-◌, ◌<◌, ◌≤◌, false, eqb, IsTrue, List, [], ◌∷◌, ◌++◌, length, drop, refl, sym, ap, ◌∙◌, subst, inl, inr, ◌⊎◌, arith, true≢false, add-zero, length-drop, length-take-le}
use Rattle.std.proofs.lemmas.Bool.{cases_lt}
use Rattle.std.proofs.lemmas.Bool.Decides.{nat_tests}
use Rattle.std.proofs.lemmas.List.{get_or-drop, get_or-take}
use Rattle.std.proofs.lemmas.List.Folds.{drop_split}
use Rattle.std.specs.Prelude.{slice_index, slice_range}
use Rattle.std.specs.Char.{is_ascii_digit}
use Rattle.std.specs.List.{AllByRecursion}
use Rattle.mcs_base.specs.Listings.{IsAscending}
use Rattle.mcs_base.specs.Words.{is_letter, is_word}
use Rattle.mcs_base.proofs.Lists.{same_first, later_split}
use Rattle.mcs_base.proofs.Each.{all_weaker}
use Rattle.mcs_base.proofs.WordLemmas.{word_begins, word_front}
use Rattle.mcs_tokens.specs.Spelling.{sign_bytes}
use Rattle.mcs_tokens.specs.Tokens.{is_separator, hash, is_number, IsGapByte, IsWholeWord, IsLongestSign, IsWholeNumber, IsStray, IsToken, IsTokenAt, IsNextToken, AreTokens}
use Rattle.mcs_tokens.specs.Laws.{LiesIn}
use Rattle.mcs_tokens.proofs.Numbers.{number_begins, digit_there, letter_no_digit}
use Rattle.mcs_tokens.specs.declared.sign.Sign.{Sign}
use Rattle.mcs_tokens.specs.declared.sign.Sign.TheVariants as signs
use Rattle.mcs_tokens.specs.declared.scan.Span.{Span}

-- a sign begins with no letter, no separator, no `#` and no digit
sign_begins : (s : Sign) → (0 < length (sign_bytes s)) × (is_letter (slice_index (sign_bytes s) 0) ≡ false) × (is_separator (slice_index (sign_bytes s) 0) ≡ false) × (eqb (slice_index (sign_bytes s) 0) hash ≡ false) × (is_ascii_digit (slice_index (sign_bytes s) 0) ≡ false)
sign_begins signs.OpenBrace = (omega arith, refl, refl, refl, refl)
sign_begins signs.CloseBrace = (omega arith, refl, refl, refl, refl)
sign_begins signs.Period = (omega arith, refl, refl, refl, refl)
sign_begins signs.Comma = (omega arith, refl, refl, refl, refl)
sign_begins signs.Colon = (omega arith, refl, refl, refl, refl)
sign_begins signs.If = (omega arith, refl, refl, refl, refl)
sign_begins signs.Slash = (omega arith, refl, refl, refl, refl)
sign_begins signs.Bar = (omega arith, refl, refl, refl, refl)
sign_begins signs.Ampersand = (omega arith, refl, refl, refl, refl)
sign_begins signs.Tilde = (omega arith, refl, refl, refl, refl)
sign_begins signs.Arrow = (omega arith, refl, refl, refl, refl)
sign_begins signs.DoubleArrow = (omega arith, refl, refl, refl, refl)
sign_begins signs.OpenParenthesis = (omega arith, refl, refl, refl, refl)
sign_begins signs.CloseParenthesis = (omega arith, refl, refl, refl, refl)

letter_apart : (b : ℕ) → IsTrue (is_letter b) → (¬ IsTrue (is_separator b)) × (b ≢ hash)
letter_apart b h = (λ s. grind (arith, nat_tests), λ e. grind (arith, nat_tests))

digit_apart : (b : ℕ) → IsTrue (is_ascii_digit b) → (¬ IsTrue (is_separator b)) × (b ≢ hash)
digit_apart b h = (λ s. grind (arith, nat_tests), λ e. grind (arith, nat_tests))

-- with what no token begins
begins : (t r : List ℕ) → IsToken t r → (0 < length t) × (¬ IsTrue (is_separator (slice_index t 0))) × (slice_index t 0 ≢ hash)
begins t r (inl w) =
    let first = word_begins t w.word in
    let apart = letter_apart (slice_index t 0) first.1 in
    (first.0, apart.0, apart.1)
begins t r (inr (inl s)) =
    let Q : List ℕ → Type 0 = λ u. (0 < length u) × (¬ IsTrue (is_separator (slice_index u 0))) × (slice_index u 0 ≢ hash) in
    let first = sign_begins s.sign in
    let here : Q (sign_bytes s.sign) = (first.0, λ e. true≢false (sym e ∙ first.2), λ e. grind (arith, nat_tests)) in
    subst Q (sym s.spelled) here
begins t r (inr (inr (inl n))) =
    let first = number_begins t n.number in
    let apart = digit_apart (slice_index t 0) first.1 in
    (first.0, apart.0, apart.1)
begins t r (inr (inr (inr s))) =
    let Q : List ℕ → Type 0 = λ u. (0 < length u) × (¬ IsTrue (is_separator (slice_index u 0))) × (slice_index u 0 ≢ hash) in
    let here : Q (s.byte ∷ []) = (omega arith, s.no_separator, s.no_comment) in
    subst Q (sym s.one) here

-- a token begins at no byte of a gap
token_no_gap : (bytes : List ℕ) (at from to : ℕ) → IsTokenAt bytes at from to → ¬ IsGapByte bytes at from
token_no_gap bytes at from to h g =
    let first = begins _ _ h.token in
    let e : slice_index (slice_range bytes from to) 0 ≡ slice_index bytes from = get_or-take (to - from) (drop from bytes) 0 0 (omega (arith, h.some)) ∙ get_or-drop from bytes 0 0 ∙ ap (slice_index bytes) (add-zero from) in
    elim g [
      | inl s ↦ first.1 (ap is_separator e ∙ s)
      | inr (inl c) ↦ first.2 (e ∙ c)
      | inr (inr c) ↦ h.no_comment c
    ]

-- ---- one token at a place
no_longer_word : (t r t' r' : List ℕ) → t ++ r ≡ t' ++ r' → IsWholeWord t r → IsTrue (is_word t') → ¬ (length t < length t')
no_longer_word t r t' r' e w w' h =
    let rest = later_split t r t' r' e h in
    w.whole rest.0 (rest.1 ++ r') rest.2 (word_front t rest.0 rest.1 w.word (ap is_word (sym rest.3) ∙ w'))

word_no_sign : (t r t' r' : List ℕ) → t ++ r ≡ t' ++ r' → IsTrue (is_word t) → (s : Sign) → ¬ (t' ≡ sign_bytes s)
word_no_sign t r t' r' e w s is =
    let first = word_begins t w in
    let sign = sign_begins s in
    let some : 0 < length t' = subst (λ u. 0 < length u) (sym is) sign.0 in
    let same : slice_index t 0 ≡ slice_index (sign_bytes s) 0 = same_first t r t' r' 0 first.0 some e ∙ ap (λ u. slice_index u 0) is in
    true≢false (sym first.1 ∙ ap is_letter same ∙ sign.1)

word_no_stray : (t r t' r' : List ℕ) → t ++ r ≡ t' ++ r' → IsTrue (is_word t) → ¬ IsStray t' r'
word_no_stray t r t' r' e w s =
    let first = word_begins t w in
    let some : 0 < length t' = subst (λ u. 0 < length u) (sym s.one) (omega arith) in
    let same : slice_index t 0 ≡ s.byte = same_first t r t' r' 0 first.0 some e ∙ ap (λ u. slice_index u 0) s.one in
    s.no_letter (ap is_letter (sym same) ∙ first.1)

sign_bound : (t r t' r' : List ℕ) → t ++ r ≡ t' ++ r' → IsLongestSign t r → (s : Sign) → t' ≡ sign_bytes s → length t' ≤ length t
sign_bound t r t' r' e l s is = subst (λ u. length u ≤ length t) (sym is) (l.longest s (r', e ∙ ap (λ u. u ++ r') is))

sign_no_stray : (t r t' r' : List ℕ) → t ++ r ≡ t' ++ r' → (s : Sign) → t ≡ sign_bytes s → ¬ IsStray t' r'
sign_no_stray t r t' r' e s is h = h.no_sign s (r, sym e ∙ ap (λ u. u ++ r) is)

no_longer_number : (t r t' r' : List ℕ) → t ++ r ≡ t' ++ r' → IsWholeNumber t r → IsTrue (is_number t') → ¬ (length t < length t')
no_longer_number t r t' r' e n n' h =
    let rest = later_split t r t' r' e h in
    n.whole rest.0 (rest.1 ++ r') rest.2 (digit_there t rest.0 rest.1 (ap is_number (sym rest.3) ∙ n'))

word_no_number : (t r t' r' : List ℕ) → t ++ r ≡ t' ++ r' → IsTrue (is_word t) → ¬ IsTrue (is_number t')
word_no_number t r t' r' e w n =
    let first = word_begins t w in
    let second = number_begins t' n in
    let same : slice_index t 0 ≡ slice_index t' 0 = same_first t r t' r' 0 first.0 second.0 e in
    true≢false (sym second.1 ∙ ap is_ascii_digit (sym same) ∙ letter_no_digit (slice_index t 0) first.1)

number_no_sign : (t r t' r' : List ℕ) → t ++ r ≡ t' ++ r' → IsTrue (is_number t) → (s : Sign) → ¬ (t' ≡ sign_bytes s)
number_no_sign t r t' r' e n s is =
    let first = number_begins t n in
    let sign = sign_begins s in
    let some : 0 < length t' = subst (λ u. 0 < length u) (sym is) sign.0 in
    let same : slice_index t 0 ≡ slice_index (sign_bytes s) 0 = same_first t r t' r' 0 first.0 some e ∙ ap (λ u. slice_index u 0) is in
    true≢false (sym first.1 ∙ ap is_ascii_digit same ∙ sign.4)

number_no_stray : (t r t' r' : List ℕ) → t ++ r ≡ t' ++ r' → IsTrue (is_number t) → ¬ IsStray t' r'
number_no_stray t r t' r' e n s =
    let first = number_begins t n in
    let some : 0 < length t' = subst (λ u. 0 < length u) (sym s.one) (omega arith) in
    let same : slice_index t 0 ≡ s.byte = same_first t r t' r' 0 first.0 some e ∙ ap (λ u. slice_index u 0) s.one in
    s.no_digit (ap is_ascii_digit (sym same) ∙ first.1)

neither_longer : (t t' : List ℕ) → ¬ (length t < length t') → ¬ (length t' < length t) → length t ≡ length t'
neither_longer t t' a b = elim (cases_lt (length t) (length t')) [
  | inl less ↦ absurd (a less)
  | inr past ↦ elim (cases_lt (length t') (length t)) [ inl less ↦ absurd (b less) | inr past' ↦ omega arith ]
]

pub same_length : (t r t' r' : List ℕ) → t ++ r ≡ t' ++ r' → IsToken t r → IsToken t' r' → length t ≡ length t'
same_length t r t' r' e (inl w) (inl w') = neither_longer t t' (no_longer_word t r t' r' e w w'.word) (no_longer_word t' r' t r (sym e) w' w.word)
same_length t r t' r' e (inl w) (inr (inl s)) = absurd (word_no_sign t r t' r' e w.word s.sign s.spelled)
same_length t r t' r' e (inl w) (inr (inr (inl n))) = absurd (word_no_number t r t' r' e w.word n.number)
same_length t r t' r' e (inl w) (inr (inr (inr y))) = absurd (word_no_stray t r t' r' e w.word y)
same_length t r t' r' e (inr (inl s)) (inl w) = absurd (word_no_sign t' r' t r (sym e) w.word s.sign s.spelled)
same_length t r t' r' e (inr (inl s)) (inr (inl s')) = let a = sign_bound t r t' r' e s s'.sign s'.spelled in let b = sign_bound t' r' t r (sym e) s' s.sign s.spelled in omega arith
same_length t r t' r' e (inr (inl s)) (inr (inr (inl n))) = absurd (number_no_sign t' r' t r (sym e) n.number s.sign s.spelled)
same_length t r t' r' e (inr (inl s)) (inr (inr (inr y))) = absurd (sign_no_stray t r t' r' e s.sign s.spelled y)
same_length t r t' r' e (inr (inr (inl n))) (inl w) = absurd (word_no_number t' r' t r (sym e) w.word n.number)
same_length t r t' r' e (inr (inr (inl n))) (inr (inl s)) = absurd (number_no_sign t r t' r' e n.number s.sign s.spelled)
same_length t r t' r' e (inr (inr (inl n))) (inr (inr (inl n'))) = neither_longer t t' (no_longer_number t r t' r' e n n'.number) (no_longer_number t' r' t r (sym e) n' n.number)
same_length t r t' r' e (inr (inr (inl n))) (inr (inr (inr y))) = absurd (number_no_stray t r t' r' e n.number y)
same_length t r t' r' e (inr (inr (inr y))) (inl w) = absurd (word_no_stray t' r' t r (sym e) w.word y)
same_length t r t' r' e (inr (inr (inr y))) (inr (inl s)) = absurd (sign_no_stray t' r' t r (sym e) s.sign s.spelled y)
same_length t r t' r' e (inr (inr (inr y))) (inr (inr (inl n))) = absurd (number_no_stray t' r' t r (sym e) n.number y)
same_length t r t' r' e (inr (inr (inr y))) (inr (inr (inr y'))) = let a = ap length y.one in let b = ap length y'.one in omega (arith, a, b)

-- ---- one next token
begins_inside : (bytes : List ℕ) (at from to : ℕ) → IsNextToken bytes at from to → from ≤ length bytes
begins_inside bytes at from to h = elim h.token [ inl t ↦ omega (arith, t.some, t.inside) | inr e ↦ omega (arith, e.0) ]

not_before : (bytes : List ℕ) (at from to from' to' : ℕ) → IsNextToken bytes at from to → IsNextToken bytes at from' to' → ¬ (from < from')
not_before bytes at from to from' to' h h' less = let inside = begins_inside bytes at from' to' h' in elim h.token [
  | inl t ↦ token_no_gap bytes at from to t (h'.gap from h.after less)
  | inr e ↦ absurd (omega (arith, e.0, inside, less))
]

range_length : (bytes : List ℕ) (from to : ℕ) → from < to → to ≤ length bytes → length (slice_range bytes from to) + from ≡ to
range_length bytes from to h inside =
    let long : length (drop from bytes) + from ≡ length bytes = omega (arith, length-drop from bytes) in
    let short : to - from ≤ length (drop from bytes) = omega arith in
    omega (arith, length-take-le (to - from) (drop from bytes) short)

same_end : (bytes : List ℕ) (at from to to' : ℕ) → IsNextToken bytes at from to → IsNextToken bytes at from to' → to ≡ to'
same_end bytes at from to to' h h' = both h.token h'.token
  where
    both : IsTokenAt bytes at from to ⊎ ((from ≡ length bytes) × (to ≡ length bytes)) → IsTokenAt bytes at from to' ⊎ ((from ≡ length bytes) × (to' ≡ length bytes)) → to ≡ to'
    both (inl t) (inl t') =
        let one = same_length _ _ _ _ (sym (drop_split bytes from to (omega (arith, t.some))) ∙ drop_split bytes from to' (omega (arith, t'.some))) t.token t'.token in
        let a = range_length bytes from to t.some t.inside in
        let b = range_length bytes from to' t'.some t'.inside in
        omega arith
    both (inl t) (inr e) = absurd (omega (arith, t.some, t.inside, e.0))
    both (inr e) (inl t) = absurd (omega (arith, t.some, t.inside, e.0))
    both (inr e) (inr e') = e.1 ∙ sym e'.1

pub next_is_unique : (bytes : List ℕ) (at from to from' to' : ℕ) → IsNextToken bytes at from to → IsNextToken bytes at from' to' → (from ≡ from') × (to ≡ to')
next_is_unique bytes at from to from' to' h h' =
    let same : from ≡ from' = elim (cases_lt from from') [
      | inl less ↦ absurd (not_before bytes at from to from' to' h h' less)
      | inr past ↦ elim (cases_lt from' from) [ inl less ↦ absurd (not_before bytes at from' to' from to h' h less) | inr past' ↦ omega arith ]
    ] in
    (same, same_end bytes at from to to' h (subst (λ (n : ℕ). IsNextToken bytes at n to') (sym same) h'))

span : ℕ → ℕ → Span
span from to = record { from = from; to = to }

pub lists_are_unique : (bytes : List ℕ) (at : ℕ) (xs ys : List Span) → AreTokens bytes at xs → AreTokens bytes at ys → xs ≡ ys
unfolding span
lists_are_unique bytes at [] [] h h' = refl
lists_are_unique bytes at [] (y ∷ ys) h h' = let same = next_is_unique bytes at _ _ _ _ h h'.0 in absurd (omega (arith, same.0, h'.1))
lists_are_unique bytes at (x ∷ xs) [] h h' = let same = next_is_unique bytes at _ _ _ _ h' h.0 in absurd (omega (arith, same.0, h.1))
lists_are_unique bytes at (x ∷ xs) (y ∷ ys) h h' =
    let same = next_is_unique bytes at _ _ _ _ h.0 h'.0 in
    let first : x ≡ y = ap (λ (n : ℕ). span n x.to) same.0 ∙ ap (λ (n : ℕ). span y.from n) same.1 in
    let rest : xs ≡ ys = lists_are_unique bytes x.to xs ys h.2 (subst (λ (n : ℕ). AreTokens bytes n ys) (sym same.1) h'.2) in
    ap (λ z. z ∷ xs) first ∙ ap (λ zs. y ∷ zs) rest

-- ---- the tokens in order
pub spans_inside : (bytes : List ℕ) (at : ℕ) (spans : List Span) → AreTokens bytes at spans → AllByRecursion (λ (s : Span). (at ≤ s.from) × (s.from < s.to) × (s.to ≤ length bytes)) spans
spans_inside bytes at [] h = tt
spans_inside bytes at (s ∷ spans) h =
    let some : (s.from < s.to) × (s.to ≤ length bytes) = elim h.0.token [ inl t ↦ (t.some, t.inside) | inr e ↦ absurd (omega (arith, e.0, h.1)) ] in
    let after = h.0.after in
    ((after, some.0, some.1), all_weaker (λ (t : Span). (s.to ≤ t.from) × (t.from < t.to) × (t.to ≤ length bytes)) _ (λ t l. (omega (arith, l.0, some.0), l.1, l.2)) spans (spans_inside bytes s.to spans h.2))

pub spans_ascend : (bytes : List ℕ) (at : ℕ) (spans : List Span) → AreTokens bytes at spans → IsAscending (λ (s t : Span). s.to ≤ t.from) spans
spans_ascend bytes at [] h = tt
spans_ascend bytes at (s ∷ spans) h = (all_weaker _ (λ (t : Span). s.to ≤ t.from) (λ t l. l.0) spans (spans_inside bytes s.to spans h.2), spans_ascend bytes s.to spans h.2)

-- no more than the bytes that are left
pub spans_few : (bytes : List ℕ) (at : ℕ) (spans : List Span) → AreTokens bytes at spans → length spans + at ≤ length bytes
spans_few bytes at [] h = omega (arith, h.after)
spans_few bytes at (s ∷ spans) h = omega (arith, h.0.after, (spans_inside bytes at (s ∷ spans) h).0.1, spans_few bytes s.to spans h.2)

pub whole : (bytes : List ℕ) (at : ℕ) (spans : List Span) (i : ℕ) → AreTokens bytes at spans → at ≤ i → i < length bytes → LiesIn bytes at spans i
whole bytes at [] i h from below = h.gap i from below
whole bytes at (s ∷ spans) i h from below = elim (cases_lt i s.from) [
  | inl less ↦ inl (less, h.0.gap i from less)
  | inr past ↦ elim (cases_lt i s.to) [
    | inl less ↦ inr (inl (past, less))
    | inr past' ↦ inr (inr (past', whole bytes s.to spans i h.2 past' below))
  ]
]
