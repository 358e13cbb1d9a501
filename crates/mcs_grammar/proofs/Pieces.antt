-- A text in pieces: tokens, and blanks that hold them apart. The tokens of such a text are its pieces that are tokens.
use Rattle.std.proofs.Common.{◌≡◌, ◌≢◌, ℕ, ◌+◌, ◌-◌, ◌<◌, ◌≤◌, IsTrue, List, [], ◌∷◌, ◌++◌, length, take, drop, refl, sym, ap, ◌∙◌, subst, inl, inr, arith, append-nil, ap₂, length-drop, true≢false}
use Rattle.std.proofs.Math.Seq.{take-append_seam}
use Rattle.std.proofs.lemmas.Bool.{cases_lt}
use Rattle.std.proofs.lemmas.List.{append_assoc}
use Rattle.std.specs.Prelude.{slice_index, slice_range}
use Rattle.mcs_base.proofs.Lists.{drop_past, drop_fits, drop-cons_within}
use Rattle.mcs_tokens.specs.Tokens.{is_separator, hash, IsInComment, IsGapByte, IsGap, IsToken, IsNextToken, AreTokens}
use Rattle.mcs_tokens.specs.declared.scan.Span.{Span}
use Rattle.mcs_grammar.specs.Entries.{Token}
use Rattle.mcs_grammar.specs.Texts.{token_texts}

pub data Piece : Type 0 where
  Part : (token : Token) → Piece
  Blank : (byte : ℕ) → Piece

abbrev pub spelled : List Piece → List ℕ
spelled [] = []
spelled (Part t ∷ ps) = t ++ spelled ps
spelled (Blank b ∷ ps) = b ∷ spelled ps

abbrev pub tokens_in : List Piece → List Token
tokens_in [] = []
tokens_in (Part t ∷ ps) = t ∷ tokens_in ps
tokens_in (Blank b ∷ ps) = tokens_in ps

-- each is a token where what comes after it does, and each blank is one
abbrev pub AreApart : List Piece → List ℕ → Type 0
AreApart [] next = Unit {0}
AreApart (Part t ∷ ps) next = (0 < length t) × IsToken t (spelled ps ++ next) × AreApart ps next
AreApart (Blank b ∷ ps) next = IsTrue (is_separator b) × AreApart ps next

-- ---- two texts beside each other
pub spelled-append : (ps qs : List Piece) → spelled (ps ++ qs) ≡ spelled ps ++ spelled qs
spelled-append [] qs = refl
spelled-append (Part t ∷ ps) qs = ap (λ l. t ++ l) (spelled-append ps qs) ∙ sym (append_assoc t (spelled ps) (spelled qs))
spelled-append (Blank b ∷ ps) qs = ap (λ l. b ∷ l) (spelled-append ps qs)

pub tokens-append : (ps qs : List Piece) → tokens_in (ps ++ qs) ≡ tokens_in ps ++ tokens_in qs
tokens-append [] qs = refl
tokens-append (Part t ∷ ps) qs = ap (λ l. t ∷ l) (tokens-append ps qs)
tokens-append (Blank b ∷ ps) qs = tokens-append ps qs

pub apart-append : (ps qs : List Piece) (next : List ℕ) → AreApart ps (spelled qs ++ next) → AreApart qs next → AreApart (ps ++ qs) next
apart-append [] qs next h k = k
apart-append (Part t ∷ ps) qs next h k =
    let same : spelled ps ++ (spelled qs ++ next) ≡ spelled (ps ++ qs) ++ next = sym (append_assoc (spelled ps) (spelled qs) next) ∙ ap (λ l. l ++ next) (sym (spelled-append ps qs)) in
    (h.0, subst (IsToken t) same h.1, apart-append ps qs next h.2 k)
apart-append (Blank b ∷ ps) qs next h k = (h.0, apart-append ps qs next h.1 k)

-- ---- the tokens of the bytes
pub record HasTokens (bytes : List ℕ) (at : ℕ) (tokens : List Token) : Type 0 where
  pub spans : List Span
  pub are : AreTokens bytes at spans
  pub texts : token_texts bytes spans ≡ tokens

no-hash : (b : ℕ) → IsTrue (is_separator b) → b ≢ hash
no-hash b h e = true≢false (sym h ∙ ap is_separator e)

range-is : (bytes : List ℕ) (from : ℕ) (part rest : List ℕ) → drop from bytes ≡ part ++ rest → slice_range bytes from (from + length part) ≡ part
range-is bytes from part rest e =
    let size : from + length part - from ≡ length part = omega arith in
    ap (λ n. take n (drop from bytes)) size ∙ ap (λ l. take (length part) l) e ∙ take-append_seam part rest

-- a blank goes on with a gap, and begins no comment
gap-more : (bytes : List ℕ) (at from : ℕ) → IsGap bytes at from → IsTrue (is_separator (slice_index bytes from)) → IsGap bytes at (from + 1)
gap-more bytes at from gap here i after before = elim (cases_lt i from) [
  | inl less ↦ gap i after less
  | inr past ↦ let same : from ≡ i = omega arith in subst (λ (k : ℕ). IsGapByte bytes at k) same (inl here)
]

no-comment-more : (bytes : List ℕ) (at from : ℕ) → ¬ IsInComment bytes at from → IsTrue (is_separator (slice_index bytes from)) → ¬ IsInComment bytes at (from + 1)
no-comment-more bytes at from none here h = elim (cases_lt h.begin from) [
  | inl less ↦ none (record { begin = h.begin; after = h.after; before = less; hash_there = h.hash_there; one_line = λ k after before. h.one_line k after (omega arith) })
  | inr past ↦ let same : from ≡ h.begin = (let less = h.before in omega arith) in no-hash (slice_index bytes from) here (ap (slice_index bytes) same ∙ h.hash_there)
]

no-gap : (bytes : List ℕ) (from : ℕ) → IsGap bytes from from
no-gap bytes from i after before = absurd (omega arith)

no-comment : (bytes : List ℕ) (from : ℕ) → ¬ IsInComment bytes from from
no-comment bytes from h = let after = h.after in let before = h.before in absurd (omega arith)

-- of the pieces from a place on, after blanks
tokens-from : (bytes : List ℕ) (ps : List Piece) (at from : ℕ) → at ≤ from → from ≤ length bytes → IsGap bytes at from → ¬ IsInComment bytes at from → drop from bytes ≡ spelled ps → AreApart ps [] → HasTokens bytes at (tokens_in ps)
tokens-from bytes [] at from after inside gap none e h =
    let end : from ≡ length bytes = (let size = ap length e in omega (arith, size, length-drop from bytes)) in
    record {
      spans = [];
      are = subst (λ (n : ℕ). IsNextToken bytes at n n) end (record { after = after; gap = gap; token = inr (end, end) });
      texts = refl;
    }
tokens-from bytes (Blank b ∷ ps) at from after inside gap none e h =
    let here = (drop-cons_within from bytes b 0 (spelled ps) e).1 in
    let separator : IsTrue (is_separator (slice_index bytes from)) = ap is_separator here ∙ h.0 in
    tokens-from bytes ps at (from + 1) (omega arith) (drop_fits from bytes (b ∷ []) (spelled ps) inside e) (gap-more bytes at from gap separator) (no-comment-more bytes at from none separator) (drop_past from bytes (b ∷ []) (spelled ps) e) h.1
tokens-from bytes (Part t ∷ ps) at from after inside gap none e h =
    let to = from + length t in
    let end = drop_fits from bytes t (spelled ps) inside e in
    let next = drop_past from bytes t (spelled ps) e in
    let range = range-is bytes from t (spelled ps) e in
    let token : IsToken (slice_range bytes from to) (drop to bytes) = rw (range, next) (subst (IsToken t) (append-nil (spelled ps)) h.1) in
    let rest = tokens-from bytes ps to to (omega arith) end (no-gap bytes to) (no-comment bytes to) next h.2 in
    record {
      spans = record { from = from; to = to } ∷ rest.spans;
      are = (record { after = after; gap = gap; token = inl (record { some = omega (arith, h.0); inside = end; no_comment = none; token = token }) }, omega (arith, h.0, end), rest.are);
      texts = ap₂ (λ x xs. x ∷ xs) range rest.texts;
    }

-- the tokens of the whole text are its pieces
pub tokens-of-pieces : (ps : List Piece) → AreApart ps [] → HasTokens (spelled ps) 0 (tokens_in ps)
tokens-of-pieces ps h = tokens-from (spelled ps) ps 0 0 (omega arith) (omega arith) (no-gap (spelled ps) 0) (no-comment (spelled ps) 0) refl h
