-- The tokens of a text, and what stands between them.
use Rattle.std.specs.Prelude.{◌≡◌, ◌≢◌, ℕ, ◌<◌, ◌≤◌, Bool, false, nat_eq, ◌&&◌, ◌||◌, IsTrue, List, [], ◌∷◌, ◌++◌, length, slice_index, slice_range, drop, ◌⊎◌}
use Rattle.std.specs.Char.{is_ascii_digit}
use Rattle.std.specs.List.{list_all}
use Rattle.mcs_base.specs.Words.{is_letter, is_word}
use Rattle.mcs_tokens.specs.Spelling.{sign_bytes}
use Rattle.mcs_tokens.specs.declared.sign.Sign.{Sign}
use Rattle.mcs_tokens.specs.declared.scan.Span.{Span}

-- ---- between tokens

-- space, tab, line feed, carriage return
abbrev pub is_separator : ℕ → Bool
is_separator b = nat_eq b 32 || (nat_eq b 9 || (nat_eq b 10 || nat_eq b 13))

-- `#`
abbrev pub hash : ℕ
hash = 35

abbrev pub line_feed : ℕ
line_feed = 10

-- A comment that began before place i, in the text from place `at` on, goes on there: it ends after a line feed.
pub record IsInComment (bytes : List ℕ) (at i : ℕ) : Type 0 where
  pub begin : ℕ
  pub after : at ≤ begin
  pub before : begin < i
  pub hash_there : slice_index bytes begin ≡ hash
  pub one_line : (k : ℕ) → begin < k → k < i → slice_index bytes k ≢ line_feed

-- a separator, the `#` of a comment, or a byte after it
abbrev pub IsGapByte : List ℕ → ℕ → ℕ → Type 0
IsGapByte bytes at i = IsTrue (is_separator (slice_index bytes i)) ⊎ ((slice_index bytes i ≡ hash) ⊎ IsInComment bytes at i)

-- only separators and comments stand from `at` up to `from`
abbrev pub IsGap : List ℕ → ℕ → ℕ → Type 0
IsGap bytes at from = (i : ℕ) → at ≤ i → i < from → IsGapByte bytes at i

-- ---- tokens

abbrev pub BeginsWith : List ℕ → List ℕ → Type 0
BeginsWith text part = (rest : List ℕ) × (text ≡ part ++ rest)

-- a word that cannot be made longer by the next byte
pub record IsWholeWord (token rest : List ℕ) : Type 0 where
  pub word : IsTrue (is_word token)
  pub whole : (b : ℕ) (bs : List ℕ) → rest ≡ b ∷ bs → ¬ IsTrue (is_word (token ++ b ∷ []))

-- a sign, and no longer one stands there
pub record IsLongestSign (token rest : List ℕ) : Type 0 where
  pub sign : Sign
  pub spelled : token ≡ sign_bytes sign
  pub longest : (s : Sign) → BeginsWith (token ++ rest) (sign_bytes s) → length (sign_bytes s) ≤ length token

-- one or more digits
abbrev pub is_number : List ℕ → Bool
is_number [] = false
is_number (b ∷ bs) = is_ascii_digit b && list_all is_ascii_digit bs

-- a number that no digit follows
pub record IsWholeNumber (token rest : List ℕ) : Type 0 where
  pub number : IsTrue (is_number token)
  pub whole : (b : ℕ) (bs : List ℕ) → rest ≡ b ∷ bs → ¬ IsTrue (is_ascii_digit b)

-- one byte, with which no word, no number, no sign, no separator and no comment begins
pub record IsStray (token rest : List ℕ) : Type 0 where
  pub byte : ℕ
  pub one : token ≡ byte ∷ []
  pub no_letter : ¬ IsTrue (is_letter byte)
  pub no_digit : ¬ IsTrue (is_ascii_digit byte)
  pub no_sign : (s : Sign) → ¬ BeginsWith (token ++ rest) (sign_bytes s)
  pub no_separator : ¬ IsTrue (is_separator byte)
  pub no_comment : byte ≢ hash

-- where the token is followed by the rest
abbrev pub IsToken : List ℕ → List ℕ → Type 0
IsToken token rest = IsWholeWord token rest ⊎ (IsLongestSign token rest ⊎ (IsWholeNumber token rest ⊎ IsStray token rest))

-- of the text from `at` on
pub record IsTokenAt (bytes : List ℕ) (at from to : ℕ) : Type 0 where
  pub some : from < to
  pub inside : to ≤ length bytes
  pub no_comment : ¬ IsInComment bytes at from
  pub token : IsToken (slice_range bytes from to) (drop to bytes)

-- the first token of the text from `at` on stands from `from` up to `to`; at the end both are the length
pub record IsNextToken (bytes : List ℕ) (at from to : ℕ) : Type 0 where
  pub after : at ≤ from
  pub gap : IsGap bytes at from
  pub token : IsTokenAt bytes at from to ⊎ ((from ≡ length bytes) × (to ≡ length bytes))

-- one byte or more of the text
abbrev pub IsSpanOf : List ℕ → Span → Type 0
IsSpanOf bytes s = (s.from < s.to) × (s.to ≤ length bytes)

-- each is the first one after the one before, and after the last there is none
abbrev pub AreTokens : List ℕ → ℕ → List Span → Type 0
AreTokens bytes at [] = IsNextToken bytes at (length bytes) (length bytes)
AreTokens bytes at (s ∷ spans) = IsNextToken bytes at s.from s.to × (s.from < length bytes) × AreTokens bytes s.to spans
