-- The resolvent of two clauses (Davis and Putnam 1960; Robinson 1965).
use Rattle.std.specs.Prelude.{◌≡◌, ◌≢◌, ◌⊎◌, List, ℤ}
use Rattle.std.specs.Prelude.{neg_ℤ}
use Rattle.mcs_base.specs.Listings.{IsAmong, IsListing}
use Rattle.mcs_trace.specs.Clauses.{LiteralBefore}

-- l is the one literal of the first clause whose negation is in the second
pub record IsOnlyClash (first second : List ℤ) (l : ℤ) : Type 0 where
  pub in_first : IsAmong l first
  pub in_second : IsAmong (neg_ℤ l) second
  pub only : (k : ℤ) → IsAmong k first → IsAmong (neg_ℤ k) second → k ≡ l

-- k is in the first clause and not l, or in the second and not the negation of l
abbrev pub IsLeft : List ℤ → List ℤ → ℤ → ℤ → Type 0
IsLeft first second l k = (IsAmong k first × (k ≢ l)) ⊎ (IsAmong k second × (k ≢ neg_ℤ l))

-- the first clause without the one literal that clashes, joined with the second without its negation
pub record IsResolvent (first second clause : List ℤ) : Type 0 where
  pub literal : ℤ
  pub clash : IsOnlyClash first second literal
  pub left : IsListing (IsLeft first second literal) LiteralBefore clause
