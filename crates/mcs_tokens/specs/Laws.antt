-- What holds of tokens: each is the contract of a function of `laws`.
use Rattle.std.specs.Prelude.{◌≡◌, ℕ, ◌<◌, ◌≤◌, List, [], ◌∷◌, length, ◌⊎◌}
use Rattle.std.specs.List.{AllByRecursion}
use Rattle.mcs_base.specs.Listings.{IsAscending}
use Rattle.mcs_tokens.specs.Tokens.{IsGapByte, IsNextToken, AreTokens}
use Rattle.mcs_tokens.specs.Kinds.{IsKind}
use Rattle.mcs_tokens.specs.declared.kind.TokenKind.{TokenKind}
use Rattle.mcs_tokens.specs.declared.scan.Span.{Span}

-- the first token is the only one that is first
abbrev pub OneTokenIsNext : Type 0
OneTokenIsNext = (bytes : List ℕ) (at from to from' to' : ℕ) → IsNextToken bytes at from to → IsNextToken bytes at from' to' → (from ≡ from') × (to ≡ to')

-- a text has one list of tokens
abbrev pub OneListOfTokens : Type 0
OneListOfTokens = (bytes : List ℕ) (at : ℕ) (xs ys : List Span) → AreTokens bytes at xs → AreTokens bytes at ys → xs ≡ ys

-- each token has a byte and stands within the text, and ends before all later ones begin
abbrev pub TokensDoNotOverlap : Type 0
TokensDoNotOverlap = (bytes : List ℕ) (at : ℕ) (spans : List Span) → AreTokens bytes at spans
    → IsAscending (λ (s t : Span). s.to ≤ t.from) spans × AllByRecursion (λ (s : Span). (at ≤ s.from) × (s.from < s.to) × (s.to ≤ length bytes)) spans

-- byte i lies in one of the tokens, or in the gap before one or after the last
abbrev pub LiesIn : List ℕ → ℕ → List Span → ℕ → Type 0
LiesIn bytes at [] i = IsGapByte bytes at i
LiesIn bytes at (s ∷ spans) i = ((i < s.from) × IsGapByte bytes at i) ⊎ (((s.from ≤ i) × (i < s.to)) ⊎ ((s.to ≤ i) × LiesIn bytes s.to spans i))

abbrev pub TokensAndGapsAreWhole : Type 0
TokensAndGapsAreWhole = (bytes : List ℕ) (at : ℕ) (spans : List Span) (i : ℕ) → AreTokens bytes at spans → at ≤ i → i < length bytes → LiesIn bytes at spans i

-- the bytes of a token tell what it is
abbrev pub OneKindForBytes : Type 0
OneKindForBytes = (token : List ℕ) (k l : TokenKind) → IsKind k token → IsKind l token → k ≡ l
