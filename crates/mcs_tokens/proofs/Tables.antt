-- Which sign a text begins with: three signs have more than one byte, and all others have one.
use Rattle.std.proofs.Common.{◌≡◌, ℕ, ◌≤◌, MatchOption, None, Some, Option, List, [], ◌∷◌, ◌++◌, length, refl, ap, arith, codes}
use Rattle.std.specs.Prelude.{slice_index}
use Rattle.mcs_tokens.specs.Spelling.{sign_bytes}
use Rattle.mcs_tokens.specs.Tokens.{BeginsWith}
use Rattle.mcs_tokens.specs.declared.sign.Sign.{Sign}
use Rattle.mcs_tokens.specs.declared.sign.Sign.TheVariants as signs

-- the longest sign with which the text begins, if there is one
abbrev pub IsFirstSign : List ℕ → Option Sign → Type 0
IsFirstSign text found = MatchOption found ((s : Sign) → ¬ BeginsWith text (sign_bytes s))
    (λ sign. BeginsWith text (sign_bytes sign) × ((s : Sign) → BeginsWith text (sign_bytes s) → length (sign_bytes s) ≤ length (sign_bytes sign)))

-- it begins with none of more than one byte
abbrev pub BeginsShort : List ℕ → Type 0
BeginsShort text = (¬ BeginsWith text (codes "<->")) × (¬ BeginsWith text (codes ":-")) × (¬ BeginsWith text (codes "->"))

one_byte : (s : Sign) (text : List ℕ) → BeginsShort text → BeginsWith text (sign_bytes s) → length (sign_bytes s) ≡ 1
one_byte signs.DoubleArrow text short b = absurd (short.0 b)
one_byte signs.If text short b = absurd (short.1 b)
one_byte signs.Arrow text short b = absurd (short.2 b)
one_byte signs.OpenBrace text short b = refl
one_byte signs.CloseBrace text short b = refl
one_byte signs.Period text short b = refl
one_byte signs.Comma text short b = refl
one_byte signs.Colon text short b = refl
one_byte signs.Slash text short b = refl
one_byte signs.Bar text short b = refl
one_byte signs.Ampersand text short b = refl
one_byte signs.Tilde text short b = refl
one_byte signs.OpenParenthesis text short b = refl
one_byte signs.CloseParenthesis text short b = refl

front_byte : (p : List ℕ) (byte : ℕ) (rest : List ℕ) → length p ≡ 1 → BeginsWith (byte ∷ rest) p → byte ∷ [] ≡ p
front_byte [] byte rest one b = absurd (omega (arith, one))
front_byte (x ∷ []) byte rest one b = ap (λ t. head_or t) b.1
  where
    head_or : List ℕ → List ℕ
    head_or [] = []
    head_or (y ∷ ys) = y ∷ []
front_byte (x ∷ (y ∷ ys)) byte rest one b = absurd (omega (arith, one))

first_by_byte : (byte : ℕ) (rest : List ℕ) (found : Option Sign) → BeginsShort (byte ∷ rest)
    → MatchOption found ((s : Sign) → ¬ (byte ∷ [] ≡ sign_bytes s)) (λ s. byte ∷ [] ≡ sign_bytes s) → IsFirstSign (byte ∷ rest) found
first_by_byte byte rest None short none = λ s b. none s (front_byte (sign_bytes s) byte rest (one_byte s (byte ∷ rest) short b) b)
first_by_byte byte rest (Some sign) short there = (
  (rest, ap (λ t. t ++ rest) there),
  λ s b. omega (arith, one_byte s (byte ∷ rest) short b, ap length there),
)

pub first_of_some : (text : List ℕ) (found : Option Sign) → 1 ≤ length text → BeginsShort text
    → MatchOption found ((s : Sign) → ¬ (slice_index text 0 ∷ [] ≡ sign_bytes s)) (λ s. slice_index text 0 ∷ [] ≡ sign_bytes s) → IsFirstSign text found
first_of_some [] found some short told = absurd (omega (arith, some))
first_of_some (byte ∷ rest) found some short told = first_by_byte byte rest found short told
