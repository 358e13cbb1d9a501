-- The bytes of a token tell what it is.
use Rattle.std.proofs.Common.{◌≡◌, ◌≢◌, ℕ, Bool, true, false, not, cond, Option, Some, None, List, [], ◌∷◌, length, refl, sym, ap, ◌∙◌, arith, leb, eqb, codes, get_or, ◌<◌, subst, lit<}
use Rattle.std.specs.Prelude.{slice_index}
use Rattle.std.specs.Str.{bytes_eq}
use Rattle.std.proofs.lemmas.Bool.Decides.{nat_tests}
use Rattle.std.proofs.lemmas.Slice.Eq.{bytes_eq-Decides}
use Rattle.std.proofs.lemmas.Bool.{false_from_ne_true, and_parts, not-true, ne_eqb, eqb-false}
use Rattle.mcs_base.specs.Words.{is_word, is_reserved}
use Rattle.mcs_base.proofs.KeywordLemmas.{keyword_one}
use Rattle.mcs_base.proofs.WordLemmas.{keyword_word}
use Rattle.mcs_tokens.specs.Spelling.{sign_bytes}
use Rattle.mcs_base.specs.Words.{keyword_bytes}
use Rattle.mcs_base.specs.declared.keyword.Keyword.{Keyword}
use Rattle.mcs_base.specs.declared.keyword.Keyword.TheVariants as word
use Rattle.mcs_tokens.specs.Tokens.{is_number}
use Rattle.mcs_tokens.specs.Kinds.{zero_digit, IsKind, keywords_of}
use Rattle.mcs_tokens.proofs.Numbers.{number_no_word}
use Rattle.mcs_tokens.specs.declared.sign.Sign.{Sign}
use Rattle.mcs_tokens.specs.declared.sign.Sign.TheVariants as signs
use Rattle.mcs_tokens.specs.declared.kind.TokenKind.{TokenKind}
use Rattle.mcs_tokens.specs.declared.kind.TokenKind.TheVariants as kinds

abbrev all_signs : List Sign
all_signs = signs.OpenBrace ∷ signs.CloseBrace ∷ signs.Period ∷ signs.Comma ∷ signs.Colon ∷ signs.If ∷ signs.Slash ∷ signs.Bar
    ∷ signs.Ampersand ∷ signs.Tilde ∷ signs.Arrow ∷ signs.DoubleArrow ∷ signs.OpenParenthesis ∷ signs.CloseParenthesis ∷ []

sign_found : List ℕ → List Sign → Option Sign
sign_found word [] = None
sign_found word (k ∷ ks) = cond (bytes_eq word (sign_bytes k)) (Some k) (sign_found word ks)

sign_again : (s : Sign) → (sign_found (sign_bytes s) all_signs ≡ Some s) × (is_word (sign_bytes s) ≡ false) × (is_number (sign_bytes s) ≡ false)
unfolding sign_found
sign_again signs.OpenBrace = (refl, refl, refl)
sign_again signs.CloseBrace = (refl, refl, refl)
sign_again signs.Period = (refl, refl, refl)
sign_again signs.Comma = (refl, refl, refl)
sign_again signs.Colon = (refl, refl, refl)
sign_again signs.If = (refl, refl, refl)
sign_again signs.Slash = (refl, refl, refl)
sign_again signs.Bar = (refl, refl, refl)
sign_again signs.Ampersand = (refl, refl, refl)
sign_again signs.Tilde = (refl, refl, refl)
sign_again signs.Arrow = (refl, refl, refl)
sign_again signs.DoubleArrow = (refl, refl, refl)
sign_again signs.OpenParenthesis = (refl, refl, refl)
sign_again signs.CloseParenthesis = (refl, refl, refl)

pub sign_no_number : (s : Sign) → is_number (sign_bytes s) ≡ false
sign_no_number s = (sign_again s).2

pub sign_no_word : (s : Sign) → is_word (sign_bytes s) ≡ false
sign_no_word s = (sign_again s).1

sign_one : (s t : Sign) → sign_bytes s ≡ sign_bytes t → s ≡ t
sign_one s t e = let same : Some s ≡ Some t = sym (sign_again s).0 ∙ ap (λ w. sign_found w all_signs) e ∙ (sign_again t).0 in cc

sign_missed : (ss : List Sign) (word : List ℕ) → ((s : Sign) → word ≢ sign_bytes s) → sign_found word ss ≡ None
unfolding sign_found
sign_missed [] word h = refl
sign_missed (s ∷ ss) word h = at (bytes_eq word (sign_bytes s)) (λ e. h s ((bytes_eq-Decides word (sign_bytes s)).0 e)) (sign_missed ss word h)
  where
    at : (b : Bool) → ¬ (b ≡ true) → sign_found word ss ≡ None → cond b (Some s) (sign_found word ss) ≡ None
    at true miss rest = absurd (miss refl)
    at false miss rest = rest

no_sign : Option Sign → Bool
no_sign None = true
no_sign (Some s) = false

-- the place of a kind among them
abbrev rank : TokenKind → ℕ
rank (kinds.Keyword k) = 0
rank kinds.Name = 1
rank kinds.LongName = 2
rank kinds.Stray = 3
rank (kinds.Sign s) = 4
rank kinds.ZeroNumber = 5
rank kinds.Two = 6
rank kinds.Number = 7

-- of a token that is no word
abbrev other_rank : List ℕ → ℕ
other_rank t = cond (is_number t) (cond (eqb (slice_index t 0) zero_digit) 5 (cond (bytes_eq t (codes "2")) 6 7)) (cond (no_sign (sign_found t all_signs)) 3 4)

ranked : (k : TokenKind) (t : List ℕ) → IsKind k t → cond (is_word t) (cond (is_reserved t) 0 (cond (leb (length t) 64) 1 2)) (other_rank t) ≡ rank k
unfolding no_sign
ranked (kinds.Keyword k) t h = let w = keyword_word k in rw (h, w.0, w.1) refl
ranked kinds.Name t h = let p = and_parts (is_word t) _ h in let q = and_parts (not (is_reserved t)) _ p.1 in rw (p.0, not-true (is_reserved t) q.0, q.1) refl
ranked kinds.LongName t h =
    let free : is_reserved t ≡ false = false_from_ne_true (is_reserved t) h.1 in
    let long : leb (length t) 64 ≡ false = grind (arith, nat_tests) in
    let word : is_word t ≡ true = h.0 in
    rw (word, free, long) refl
ranked (kinds.Sign s) t h = rw (h, sign_no_word s, sign_no_number s, (sign_again s).0) refl
ranked kinds.Stray t h =
    let w : is_word t ≡ false = false_from_ne_true (is_word t) h.0 in
    let d : is_number t ≡ false = false_from_ne_true (is_number t) h.1 in
    let m = sign_missed all_signs t h.2 in
    rw (w, d, m) refl
ranked kinds.ZeroNumber t h = rw (number_no_word t h.0, h.0, h.1) refl
ranked kinds.Two t h = rw h refl
ranked kinds.Number t h =
    let first : eqb (slice_index t 0) zero_digit ≡ false = ne_eqb (slice_index t 0) zero_digit h.1 in
    let other : bytes_eq t (codes "2") ≡ false = false_from_ne_true (bytes_eq t (codes "2")) (λ e. h.2 ((bytes_eq-Decides t (codes "2")).0 e)) in
    rw (number_no_word t h.0, h.0, first, other) refl

pub one_kind : (t : List ℕ) (k l : TokenKind) → IsKind k t → IsKind l t → k ≡ l
one_kind t (kinds.Keyword k) (kinds.Keyword l) h h' = ap (λ x. kinds.Keyword x) (keyword_one k l (sym h ∙ h'))
one_kind t kinds.Name kinds.Name h h' = refl
one_kind t kinds.LongName kinds.LongName h h' = refl
one_kind t (kinds.Sign s) (kinds.Sign s') h h' = ap (λ x. kinds.Sign x) (sign_one s s' (sym h ∙ h'))
one_kind t kinds.Stray kinds.Stray h h' = refl
one_kind t kinds.ZeroNumber kinds.ZeroNumber h h' = refl
one_kind t kinds.Two kinds.Two h h' = refl
one_kind t kinds.Number kinds.Number h h' = refl
one_kind t k l h h' = absurd (eqb-false (rank k) (rank l) refl (sym (ranked k t h) ∙ ranked l t h'))

-- ---- the reserved words of a length
keyword_place : Keyword → ℕ
keyword_place word.Keep = 1
keyword_place word.Know = 2
keyword_place word.Closed = 1
keyword_place word.Weight = 2
keyword_place word.Default = 1
keyword_place word.Program = 2
keyword_place word.Version = 3
keyword_place k = 0

keyword_there : (k : Keyword) → (keyword_place k < length (keywords_of (length (keyword_bytes k)))) × (get_or (keywords_of (length (keyword_bytes k))) (keyword_place k) k ≡ k)
unfolding keyword_place
keyword_there word.Context = (lit< tt, refl)
keyword_there word.Bridge = (lit< tt, refl)
keyword_there word.Classical = (lit< tt, refl)
keyword_there word.Default = (lit< tt, refl)
keyword_there word.Program = (lit< tt, refl)
keyword_there word.Not = (lit< tt, refl)
keyword_there word.If = (lit< tt, refl)
keyword_there word.True = (lit< tt, refl)
keyword_there word.False = (lit< tt, refl)
keyword_there word.Version = (lit< tt, refl)
keyword_there word.Keep = (lit< tt, refl)
keyword_there word.Closed = (lit< tt, refl)
keyword_there word.Weight = (lit< tt, refl)
keyword_there word.Autoepistemic = (lit< tt, refl)
keyword_there word.Know = (lit< tt, refl)

-- a reserved word is one of those that are as long
pub keyword_no_candidate : (k : Keyword) (token : List ℕ) (candidates : List Keyword) → candidates ≡ keywords_of (length token) → token ≡ keyword_bytes k
    → ¬ ((i : ℕ) (d : Keyword) → i < length candidates → ¬ (token ≡ keyword_bytes (get_or candidates i d)))
keyword_no_candidate k token candidates listed e none =
    let these : candidates ≡ keywords_of (length (keyword_bytes k)) = listed ∙ ap (λ t. keywords_of (length t)) e in
    let there = keyword_there k in
    none (keyword_place k) k (subst (λ l. keyword_place k < length l) (sym these) there.0) (e ∙ ap keyword_bytes (sym (ap (λ l. get_or l (keyword_place k) k) these ∙ there.1)))

pub no_candidates : (n : ℕ) → 2 ≢ n → 3 ≢ n → 4 ≢ n → 5 ≢ n → 6 ≢ n → 7 ≢ n → 9 ≢ n → 13 ≢ n → keywords_of n ≡ []
no_candidates n h2 h3 h4 h5 h6 h7 h9 h13 = rw (ne_eqb 2 n h2, ne_eqb 3 n h3, ne_eqb 4 n h4, ne_eqb 5 n h5, ne_eqb 6 n h6, ne_eqb 7 n h7, ne_eqb 9 n h9, ne_eqb 13 n h13) refl
