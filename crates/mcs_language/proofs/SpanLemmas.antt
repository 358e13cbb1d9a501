-- Tokens that are read one after the other, before it is known which come later.
use Rattle.std.proofs.Common.{◌≡◌, ℕ, ◌+◌, ◌<◌, ◌≤◌, List, [], ◌∷◌, ◌++◌, length, Option, Some, None, sym, ap, subst, ◌∙◌, inl, inr, arith, append_assoc, append-nil, length-append, get_or, slice_get}
use Rattle.std.specs.Prelude.{slice_range}
use Rattle.std.proofs.Math.Seq.{get_or-append_seam}
use Rattle.mcs_tokens.specs.Tokens.{IsNextToken, AreTokens}
use Rattle.mcs_tokens.specs.declared.scan.Span.{Span}
use Rattle.mcs_tokens.proofs.Gaps.{ended_there}
use Rattle.mcs_faults.specs.declared.fault.Fault as code_fault
use Rattle.mcs_faults.specs.declared.fault.TextFault as code_text
use Rattle.mcs_faults.specs.declared.fault.TextFault.TheVariants as texts
use Rattle.mcs_faults.specs.Watching.{fault_for}
use Rattle.mcs_grammar.specs.Entries.{Token}
use Rattle.mcs_grammar.specs.Faults.{fault_number, limit_of}
use Rattle.mcs_grammar.specs.Texts.{token_texts}
use Rattle.mcs_language.specs.declared.reading.Reading.{Reading}
use Rattle.mcs_language.specs.Progress.{AreReadUpTo, AreTokensRead, IsNextRead, IsToldOf}
use Rattle.mcs_language.proofs.ToldLemmas.{token-at, told-at}

-- a next token that does not begin at the end
pub inside : (bytes : List ℕ) (at from to : ℕ) → IsNextToken bytes at from to → ¬ (from ≡ length bytes) → (from < length bytes) × (from < to) × (to ≤ length bytes)
inside bytes at from to next more = elim next.token [ inl t ↦ (omega (arith, t.some, t.inside), t.some, t.inside) | inr e ↦ absurd (more e.0) ]

-- the tokens before the place were read, whichever come after it
pub record AreReadBefore (bytes : List ℕ) (r : Reading) (at : ℕ) : Type 0 where
  pub before : List Span
  pub tokens : (rest : List Span) → AreTokens bytes at rest → AreTokens bytes 0 (before ++ rest)
  pub read : (rest : List Span) → AreTokens bytes at rest → AreReadUpTo r (token_texts bytes (before ++ rest)) (length before)

pub none_before : (bytes : List ℕ) (r : Reading) → ((ts : List Token) → AreReadUpTo r ts 0) → AreReadBefore bytes r 0
none_before bytes r begun = record { before = []; tokens = λ rest are. are; read = λ rest are. begun (token_texts bytes rest) }

-- at the end of the text
pub all_read : (bytes : List ℕ) (r : Reading) (at from to : ℕ) → AreReadBefore bytes r at → IsNextToken bytes at from to → from ≡ length bytes → AreTokensRead bytes r
all_read bytes r at from to h next ended =
    let none = ended_there bytes at from to next ended in
    record {
      spans = h.before;
      tokens = subst (AreTokens bytes 0) (append-nil h.before) (h.tokens [] none);
      all = subst (λ (xs : List Span). AreReadUpTo r (token_texts bytes xs) (length h.before)) (append-nil h.before) (h.read [] none);
    }

-- ---- one token more
module _ (bytes : List ℕ) (r now : Reading) (at from to : ℕ) (token : Token) (h : AreReadBefore bytes r at) (next : IsNextToken bytes at from to) (more : from < length bytes) (is : token ≡ slice_range bytes from to) where
  abbrev here : Span
  here = record { from = from; to = to }

  less : (rest : List Span) → length h.before < length (h.before ++ here ∷ rest)
  less rest = omega (arith, length-append h.before (here ∷ rest))

  found : (rest : List Span) → get_or (h.before ++ here ∷ rest) (length h.before) here ≡ here
  found rest = get_or-append_seam h.before here rest here

  with : (rest : List Span) → AreTokens bytes to rest → AreTokens bytes at (here ∷ rest)
  with rest are = (next, more, are)

  taken : (f : Option code_fault.Fault) → ((ts : List Token) (k : ℕ) → AreReadUpTo r ts k → slice_get ts k ≡ Some token → IsNextRead f now ts k) → (rest : List Span) → AreTokens bytes to rest
      → IsNextRead f now (token_texts bytes (h.before ++ here ∷ rest)) (length h.before)
  taken f took rest are =
      let spans = h.before ++ here ∷ rest in
      let there = token-at bytes spans (length h.before) here token (less rest) (is ∙ ap (λ (s : Span). slice_range bytes s.from s.to) (sym (found rest))) in
      took (token_texts bytes spans) (length h.before) (h.read (here ∷ rest) (with rest are)) there

  -- without a fault
  pub one_more : ((ts : List Token) (k : ℕ) → AreReadUpTo r ts k → slice_get ts k ≡ Some token → IsNextRead None now ts k) → AreReadBefore bytes now to
  one_more took =
      let longer : length h.before + 1 ≡ length (h.before ++ here ∷ []) = omega (arith, length-append h.before (here ∷ [])) in
      record {
        before = h.before ++ here ∷ [];
        tokens = λ rest are. subst (AreTokens bytes 0) (sym (append_assoc h.before (here ∷ []) rest)) (h.tokens (here ∷ rest) (with rest are));
        read = λ rest are.
            subst (λ (xs : List Span). AreReadUpTo now (token_texts bytes xs) (length (h.before ++ here ∷ []))) (sym (append_assoc h.before (here ∷ []) rest))
            (subst (AreReadUpTo now (token_texts bytes (h.before ++ here ∷ rest))) longer (taken None took rest are));
      }

  -- with one, whatever tokens come after it
  pub told_there : (f : code_fault.Fault) (told : code_text.TextFault) → ((ts : List Token) (k : ℕ) → AreReadUpTo r ts k → slice_get ts k ≡ Some token → IsNextRead (Some f) now ts k) → (rest : List Span) → AreTokens bytes to rest
      → told ≡ texts.Fault (fault_number (fault_for f)) from (limit_of (fault_for f)) → IsToldOf bytes told
  told_there f told took rest are so =
      let begins : from ≡ (get_or (h.before ++ here ∷ rest) (length h.before) here).from = ap (λ (s : Span). s.from) (sym (found rest)) in
      told-at bytes (h.before ++ here ∷ rest) (length h.before) here f told (h.tokens (here ∷ rest) (with rest are)) (less rest) (taken (Some f) took rest are)
      (so ∙ ap (λ (n : ℕ). texts.Fault (fault_number (fault_for f)) n (limit_of (fault_for f))) begins)
