-- A finite set of numbers, kept as one number: k is in the set where bit k is set.
use Rattle.std.specs.Prelude.{◌≡◌, ℕ, ◌+◌, ◌^◌, ◌<◌, Bool, false, nat_eq, bit_or, bit_and, bit_xor, IsTrue, List, [], ◌∷◌, cond, zero, suc, length}
use Rattle.std.specs.Int.{bit_at}

-- whether k is in the set
unfoldable pub has : ℕ → ℕ → Bool
has s k = nat_eq (bit_at s k) 1

unfoldable pub single : ℕ → ℕ
single k = 2 ^ k

unfoldable pub union : ℕ → ℕ → ℕ
union a b = bit_or a b

unfoldable pub common : ℕ → ℕ → ℕ
common a b = bit_and a b

-- the members of a that are not in b
unfoldable pub minus : ℕ → ℕ → ℕ
minus a b = bit_xor a (bit_and a b)

-- the numbers below n that pass the test
unfoldable pub such_that : ℕ → (ℕ → Bool) → ℕ
such_that zero p = 0
such_that (suc n) p = cond (p n) (union (such_that n p) (single n)) (such_that n p)

-- the members from i on, ascending, of a set whose members are below i + w
unfoldable pub members_from : ℕ → ℕ → ℕ → List ℕ
members_from i zero s = []
members_from i (suc w) s = cond (has s i) (i ∷ members_from (i + 1) w s) (members_from (i + 1) w s)

-- the members, ascending: each is below s itself
unfoldable pub members : ℕ → List ℕ
members s = members_from 0 s s

-- each member of a is in b
abbrev pub Within : ℕ → ℕ → Type 0
Within a b = (k : ℕ) → IsTrue (has a k) → IsTrue (has b k)

-- some number is in both
pub record Meets (a b : ℕ) : Type 0 where
  pub member : ℕ
  pub in_first : IsTrue (has a member)
  pub in_second : IsTrue (has b member)

-- k is the least member
pub record IsLeast (s k : ℕ) : Type 0 where
  pub in_set : IsTrue (has s k)
  pub none_below : (j : ℕ) → j < k → has s j ≡ false

-- how many members
abbrev pub size : ℕ → ℕ
size s = length (members s)
