-- Which text spells which system, and which text has which fault, by its bytes.
use Rattle.std.specs.Prelude.{◌≡◌, ℕ, List, map, length, slice_range, Option, Some, None, slice_get}
use Rattle.mcs_system.specs.Plain.{System}
use Rattle.mcs_system.specs.Justifications.{SystemIsJustifiedUpTo}
use Rattle.mcs_system.specs.declared.limit.Limit.{Limit}
use Rattle.mcs_tokens.specs.Tokens.{AreTokens}
use Rattle.mcs_tokens.specs.declared.scan.Span.{Span}
use Rattle.mcs_grammar.specs.Written.{WrittenText, IsText}
use Rattle.mcs_grammar.specs.Entries.{Token, text_entries, tokens_of}
use Rattle.mcs_grammar.specs.Saying.{SaysSystem}
use Rattle.mcs_grammar.specs.Faults.{TextFault, IsFaultAt, IsFirstTextFault, fault_number, limit_of}

abbrev pub token_texts : List ℕ → List Span → List Token
token_texts bytes spans = map (λ (s : Span). slice_range bytes s.from s.to) spans

-- the tokens of the bytes are those of a text that says this, and none has a fault
pub record Spells (bytes : List ℕ) (m : System) : Type 0 where
  pub spans : List Span
  pub tokens : AreTokens bytes 0 spans
  pub text : WrittenText
  pub grammar : IsText text
  pub written : token_texts bytes spans ≡ tokens_of (text_entries text)
  pub says : SaysSystem text m
  pub no_fault : (k : ℕ) (f : TextFault) → ¬ IsFaultAt (token_texts bytes spans) k f

-- where token k begins; the end of the text counts as one more token
abbrev pub offset_of : List ℕ → List Span → ℕ → ℕ
offset_of bytes spans k = at (slice_get spans k)
  where
    at : Option Span → ℕ
    at None = length bytes
    at (Some s) = s.from

-- the first fault of the text stands at the offset
pub record HasFault (bytes : List ℕ) (number : ℕ) (limit : Option Limit) (offset : ℕ) : Type 0 where
  pub spans : List Span
  pub tokens : AreTokens bytes 0 spans
  pub token : ℕ
  pub fault : TextFault
  pub first : IsFirstTextFault (token_texts bytes spans) token fault
  pub number_is : number ≡ fault_number fault
  pub limit_is : limit ≡ limit_of fault
  pub offset_is : offset ≡ offset_of bytes spans token

-- a text spells one system at most
abbrev pub TextsAreUnambiguous : Type 0
TextsAreUnambiguous = (bytes : List ℕ) (m n : System) → Spells bytes m → Spells bytes n → m ≡ n

-- a text has one fault at most: one number, one limit and one offset
abbrev pub TextsHaveOneFault : Type 0
TextsHaveOneFault = (bytes : List ℕ) (number number' : ℕ) (limit limit' : Option Limit) (offset offset' : ℕ) → HasFault bytes number limit offset → HasFault bytes number' limit' offset'
    → (number ≡ number') × (limit ≡ limit') × (offset ≡ offset')

-- a text that spells a system has no fault
abbrev pub SpelledTextsHaveNoFault : Type 0
SpelledTextsHaveNoFault = (bytes : List ℕ) (m : System) (number : ℕ) (limit : Option Limit) (offset : ℕ) → Spells bytes m → ¬ HasFault bytes number limit offset

-- no default of a system has more justifications than its text has bytes
abbrev pub SpelledDefaultsAreShort : Type 0
SpelledDefaultsAreShort = (bytes : List ℕ) (m : System) → Spells bytes m → SystemIsJustifiedUpTo (length bytes) m
