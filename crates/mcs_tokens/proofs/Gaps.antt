-- What stands between tokens, and the token after it.
use Rattle.std.proofs.Common.{◌≡◌, ℕ, ◌+◌, ◌-◌, ◌<◌, ◌≤◌, Bool, true, false, List, [], ◌∷◌, length, take, drop, refl, sym, subst, inl, inr, arith, length-drop}
use Rattle.std.proofs.lemmas.List.{take_rest, drop-drop}
use Rattle.std.specs.List.{AllByRecursion}
use Rattle.mcs_tokens.specs.Tokens.{IsInComment, IsGap, IsGapByte, IsToken, IsNextToken, AreTokens, IsSpanOf}
use Rattle.mcs_tokens.specs.declared.scan.Span.{Span}

-- up to i there is a gap, and whether a comment goes on there is known
pub record GapSoFar (bytes : List ℕ) (at i : ℕ) (in_comment : Bool) : Type 0 where
  pub gap : IsGap bytes at i
  pub open_there : in_comment ≡ true → IsInComment bytes at i
  pub closed_there : in_comment ≡ false → ¬ IsInComment bytes at i

-- the token that begins where the gap ends is the next one
pub next_there : (bytes : List ℕ) (at from len : ℕ) → at ≤ from → from < length bytes → IsGap bytes at from → ¬ IsGapByte bytes at from → 0 < len → len ≤ length (take (length bytes - from) (drop from bytes))
    → IsToken (take len (take (length bytes - from) (drop from bytes))) (drop len (take (length bytes - from) (drop from bytes))) → IsNextToken bytes at from (from + len)
next_there bytes at from len after inside gap ended some fits token =
    let text : take (length bytes - from) (drop from bytes) ≡ drop from bytes = take_rest bytes from in
    let long : length (drop from bytes) + from ≡ length bytes = omega (arith, length-drop from bytes) in
    let short : len ≤ length (drop from bytes) = subst (λ t. len ≤ length t) text fits in
    let size : from + len - from ≡ len = omega arith in
    let here : IsToken (take len (drop from bytes)) (drop len (drop from bytes)) = subst (λ t. IsToken (take len t) (drop len t)) text token in
    record {
      after = after;
      gap = gap;
      token = inl (record {
        some = omega arith;
        inside = omega arith;
        no_comment = λ h. ended (inr (inr h));
        token = subst (λ (n : ℕ). IsToken (take n (drop from bytes)) (drop (from + len) bytes)) (sym size) (subst (λ rest. IsToken (take len (drop from bytes)) rest) (drop-drop len from bytes) here);
      });
    }

pub ended_there : (bytes : List ℕ) (at from to : ℕ) → IsNextToken bytes at from to → from ≡ length bytes → AreTokens bytes at []
ended_there bytes at from to h e = record {
  after = omega (arith, h.after);
  gap = subst (IsGap bytes at) e h.gap;
  token = inr (refl, refl);
}

next_span : (bytes : List ℕ) (at : ℕ) (s : Span) → IsNextToken bytes at s.from s.to → s.from < length bytes → IsSpanOf bytes s
next_span bytes at s h below = elim h.token [ inl t ↦ (t.some, t.inside) | inr e ↦ absurd (omega (arith, e.0, below)) ]

pub are_spans : (bytes : List ℕ) (at : ℕ) (spans : List Span) → AreTokens bytes at spans → AllByRecursion (IsSpanOf bytes) spans
are_spans bytes at [] h = tt
are_spans bytes at (s ∷ spans) h = (next_span bytes at s h.0 h.1, are_spans bytes s.to spans h.2)
