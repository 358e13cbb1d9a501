-- How the parts of a line are read, as functions by which the code is told.
use Rattle.std.specs.Prelude.{ℕ, ◌+◌, ◌*◌, ◌-◌, ◌^◌, nat_eq, nat_lt, nat_le, Bool, true, false, not, ◌&&◌, ◌||◌, cond, List, [], ◌∷◌, ◌++◌, length, take, drop, codes, Option, Some, None, position, ℤ, pos, ◌-ℤ◌}
use Rattle.std.specs.Option.{option_and_then, option_map_or}
use Rattle.std.specs.Int.RustNames.{unsigned_abs}
use Rattle.std.specs.Str.{bytes_eq}
use Rattle.mcs_sets.specs.Sets.{has, union, single}
use Rattle.mcs_trace.specs.Clauses.{place}
use Rattle.mcs_trace.specs.Traces.{Inference}

infixl 10 ◌>>=◌
abbrev pub ◌>>=◌ : {A B : Type 0} → Option A → (A → Option B) → Option B
o >>= f = option_and_then f o

-- what follows the front in the bytes
unfoldable pub after_prefix : List ℕ → List ℕ → Option (List ℕ)
after_prefix front bytes = cond (bytes_eq (take (length front) bytes) front) (Some (drop (length front) bytes)) None

-- the place of the first byte that is this one
abbrev pub place_of_byte : ℕ → List ℕ → Option ℕ
place_of_byte byte bytes = position (λ b. nat_eq b byte) bytes

-- ---- numbers
-- the number with one more digit, 0 being that of no digit
unfoldable pub with_digit : ℕ → ℕ → Option ℕ
with_digit n b =
    cond (nat_le 48 b && nat_le b 57) (cond (nat_lt 0 (n * 10 + (b - 48)) && nat_lt (n * 10 + (b - 48)) (2 ^ 63)) (Some (n * 10 + (b - 48))) None) None

-- the number that was read, if one was
abbrev pub whole : ℕ → Option ℕ
whole n = cond (nat_eq n 0) None (Some n)

abbrev pub number_from : ℕ → List ℕ → Option ℕ
number_from n [] = whole n
number_from n (b ∷ bytes) = option_and_then (λ next. number_from next bytes) (with_digit n b)

unfoldable pub number_of_bytes : List ℕ → Option ℕ
number_of_bytes bytes = number_from 0 bytes

-- numbers with a space between them: those taken, and one begun
abbrev pub numbers_from : List ℕ → ℕ → List ℕ → Option (List ℕ)
numbers_from taken n [] = cond (nat_eq n 0) None (Some (taken ++ n ∷ []))
numbers_from taken n (b ∷ bytes) =
    cond (nat_eq b 32) (cond (nat_eq n 0) None (numbers_from (taken ++ n ∷ []) 0 bytes)) (option_and_then (λ next. numbers_from taken next bytes) (with_digit n b))

unfoldable pub numbers_of : List ℕ → Option (List ℕ)
numbers_of bytes = numbers_from [] 0 bytes

abbrev pub signed : ℕ → Bool → ℤ
signed n is_negative = cond is_negative (pos 0 -ℤ pos n) (pos n)

-- literals with a space after each: those taken, and one begun
abbrev pub literals_before : List ℤ → ℕ → Bool → List ℕ → Option (List ℤ)
literals_before taken n is_negative [] = cond (nat_eq n 0 && not is_negative) (Some taken) None
literals_before taken n is_negative (b ∷ bytes) =
    cond (nat_eq b 32) (cond (nat_eq n 0) None (literals_before (taken ++ signed n is_negative ∷ []) 0 false bytes))
    (cond (nat_eq b 45) (cond (nat_eq n 0 && not is_negative) (literals_before taken 0 true bytes) None)
    (option_and_then (λ next. literals_before taken next is_negative bytes) (with_digit n b)))

unfoldable pub literals_of_bytes : List ℕ → Option (List ℤ)
literals_of_bytes bytes = literals_before [] 0 false bytes

-- ---- sets
-- whether the bytes go on with a comma, or end the set
abbrev pub ends_member : List ℕ → Bool
ends_member [] = false
ends_member (b ∷ bytes) = nat_eq b 44 || nat_eq b 125

abbrev pub guarded : {A : Type 0} → Bool → A → Option A
guarded b x = cond b (Some x) None

-- what follows a member, which may be the first of the set
unfoldable pub after_member : List ℕ → Bool → List ℕ → Option (List ℕ)
after_member bytes is_first member = do
  start ← cond is_first (Some bytes) (after_prefix (codes ", ") bytes)
  rest ← after_prefix member start
  guarded (ends_member rest) rest

-- the set of which these were found, where of those that are allowed, spelled by these texts from number k on, some may follow in the bytes
abbrev pub set_from : ℕ → ℕ → List (List ℕ) → ℕ → List ℕ → Option ℕ
set_from allowed k [] found bytes = guarded (bytes_eq bytes (codes "}")) found
set_from allowed k (text ∷ texts) found bytes =
    option_map_or (λ rest. set_from allowed (k + 1) texts (union found (single k)) rest)
    (cond (has allowed k) (after_member bytes (nat_eq found 0) text) None) (set_from allowed (k + 1) texts found bytes)

-- the set that the bytes spell, of allowed numbers, which are spelled by these texts
unfoldable pub set_of : List (List ℕ) → ℕ → List ℕ → Option ℕ
set_of texts allowed bytes = after_prefix (codes "{") bytes >>= λ rest. set_from allowed 0 texts 0 rest

-- ---- steps
-- whether the numbers are literals in strictly ascending order, where the last one before them has this place
abbrev pub ascend_from : ℕ → List ℤ → Bool
ascend_from last [] = true
ascend_from last (l ∷ ls) = nat_lt 0 (unsigned_abs l) && (nat_lt (unsigned_abs l) (2 ^ 63) && (nat_lt last (place l) && ascend_from (place l) ls))

-- a step of resolution: its literals and its chain
unfoldable pub step_of : List ℕ → Option Inference
step_of line = do
  rest ← after_prefix (codes "step ") line
  by ← place_of_byte 98 rest
  numbers ← after_prefix (codes "by ") (drop by rest)
  literals ← literals_of_bytes (take by rest)
  clause ← guarded (ascend_from 0 literals) literals
  chain ← numbers_of numbers
  Some (record { clause = clause; chain = chain })
