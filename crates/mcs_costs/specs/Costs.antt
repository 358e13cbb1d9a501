-- What a repair costs, which diagnoses cost least, and how many marks such a one may have.
use Rattle.std.specs.Prelude.{◌≡◌, ◌⊎◌, ℕ, ◌+◌, ◌*◌, ◌/◌, ◌<◌, ◌≤◌, List, map, length, Option, Some, None, slice_get}
use Rattle.std.specs.List.{AllByRecursion, sum_by}
use Rattle.mcs_sets.specs.Orders.{PairBefore}
use Rattle.mcs_sets.specs.Sets.{members, size, Within}
use Rattle.mcs_base.specs.Least.{IsLeastOf}
use Rattle.mcs_base.specs.Listings.{IsAscending, IsListing}
use Rattle.mcs_system.specs.Plain.{Bridge, System}
use Rattle.mcs_system.specs.Repairs.{all_marks, IsDiagnosis}
use Rattle.mcs_system.specs.Systems.{IsConsistent}

-- ---- weights
abbrev pub weight_of : Option Bridge → ℕ
weight_of None = 0
weight_of (Some b) = b.weight

-- the weight of the rule of a mark: 2r and 2r + 1 are the marks of rule r
abbrev pub mark_weight : System → ℕ → ℕ
mark_weight m k = weight_of (slice_get m.bridges (k / 2))

-- the weights of the rules, in order
abbrev pub weights : System → List ℕ
weights m = map (λ (b : Bridge). b.weight) m.bridges

-- w is the least weight of a rule
abbrev pub IsLeastWeight : System → ℕ → Type 0
IsLeastWeight m w = IsLeastOf (weights m) (Some w)

-- ---- costs
-- the cost of a pair: the sum of the weights of its marks' rules, one for each mark
unfoldable pub cost : System → ℕ → ℕ
cost m pair = sum_by (mark_weight m) (members pair)

-- sets of marks of rules, in the order of pairs
pub record ArePairs (m : System) (pairs : List ℕ) : Type 0 where
  pub marks : AllByRecursion (λ p. Within p (all_marks m)) pairs
  pub ascending : IsAscending PairBefore pairs

-- a diagnosis is cheapest where no diagnosis costs less
pub record IsCheapest (m : System) (pair : ℕ) : Type 0 where
  pub one : IsDiagnosis m pair
  pub least : (other : ℕ) → IsDiagnosis m other → cost m pair ≤ cost m other

-- ---- how far a search for the cheapest has to go
-- some diagnosis with at most so many marks costs less than one mark more would cost at the least weight, so that no pair with more marks costs less than it
pub record SettlesCost (m : System) (level : ℕ) : Type 0 where
  pub pair : ℕ
  pub diagnosis : IsDiagnosis m pair
  pub few : size pair ≤ level
  pub weight : ℕ
  pub least : IsLeastWeight m weight
  pub cheap : cost m pair < (level + 1) * weight

-- the least level that settles the least cost, where it is no more than there are rules
pub record IsFirstSettling (m : System) (level : ℕ) : Type 0 where
  pub settles : SettlesCost m level
  pub first : (k : ℕ) → k < level → ¬ SettlesCost m k
  pub within : level ≤ length m.bridges

-- the level settles that no other diagnosis costs less than this pair, by its cost, or since there is no higher level
abbrev pub IsSettledAt : System → ℕ → ℕ → Type 0
IsSettledAt m level pair = ((weight : ℕ) × IsLeastWeight m weight × (cost m pair < (level + 1) * weight)) ⊎ (length m.bridges ≤ level)

-- the level settles of no diagnosis that none costs less
abbrev pub SettlesNone : System → ℕ → Type 0
SettlesNone m level = (pair : ℕ) → IsDiagnosis m pair → ¬ IsSettledAt m level pair

-- exactly the cheapest diagnoses, in the order of pairs
abbrev pub AreCheapest : System → List ℕ → Type 0
AreCheapest m pairs = IsListing (IsCheapest m) PairBefore pairs

-- the number of rules, where no level up to it settles the least cost
pub record IsNeverSettled (m : System) (level : ℕ) : Type 0 where
  pub all : level ≡ length m.bridges
  pub never : (k : ℕ) → k ≤ length m.bridges → ¬ SettlesCost m k

-- the stop level: 0 where the system is consistent; else the least level that settles the least cost, and the number of rules where none up to it does
abbrev pub IsStopLevel : System → ℕ → Type 0
IsStopLevel m level = (IsConsistent m × (level ≡ 0)) ⊎ ((¬ IsConsistent m) × (IsFirstSettling m level ⊎ IsNeverSettled m level))

-- a level that a search takes: none is above the stop level
abbrev pub IsUpToStop : System → ℕ → Type 0
IsUpToStop m level = (stop : ℕ) → IsStopLevel m stop → level ≤ stop
