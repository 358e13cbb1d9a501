-- The search for the cheapest diagnoses while it is under way.
use Rattle.std.specs.Prelude.{◌≡◌, ◌⊎◌, ℕ, zero, suc, ◌*◌, ◌<◌, ◌≤◌, false, List, map, Option, Some, None}
use Rattle.mcs_sets.specs.Orders.{PairBefore}
use Rattle.mcs_sets.specs.Sets.{size}
use Rattle.mcs_base.specs.Listings.{IsListing}
use Rattle.mcs_base.specs.Minimal.{IsMinimal}
use Rattle.mcs_system.specs.Faults.{IsValid}
use Rattle.mcs_system.specs.Plain.{System}
use Rattle.mcs_system.specs.Repairs.{IsDiagnosis}
use Rattle.mcs_states.specs.Evaluators.{EvaluatorState, KeepsRest, IsEvaluatorSettled, ExceedsBudget, IsUnanswered}
use Rattle.mcs_diagnosis.specs.Courses.{IsPast}
use Rattle.mcs_base.specs.Least.{IsLeastOf}
use Rattle.mcs_costs.specs.Costs.{cost, IsCheapest, IsLeastWeight, IsStopLevel, IsUpToStop}

-- this cost is less than so many marks of this weight cost: not where there is none of the two
abbrev pub CostsLess : Option ℕ → Option ℕ → ℕ → Type 0
CostsLess None weight marks = ⊥
CostsLess (Some price) None marks = ⊥
CostsLess (Some price) (Some weight) marks = price < marks * weight

-- what costs so much costs the least
abbrev pub CostsLeast : Option ℕ → ℕ → Type 0
CostsLeast None price = ⊥
CostsLeast (Some least) price = least ≡ price

-- exactly the levels before this one were done
abbrev pub IsDoneBefore : EvaluatorState → ℕ → Type 0
IsDoneBefore e zero = e.done ≡ None
IsDoneBefore e (suc level) = (e.done ≡ Some level) × IsEvaluatorSettled e

-- the level is one that the search takes; it has no more questions than the budget, and an answer to each
pub record IsTaken (e : EvaluatorState) (level : ℕ) : Type 0 where
  pub up_to_stop : IsUpToStop e.system level
  pub within : ¬ ExceedsBudget e level
  pub answered : (i x : ℕ) → ¬ IsUnanswered e level i x

-- an evaluator has taken the levels before this one, which have these pairs of minimal diagnoses, with this least cost
pub record IsSearching (first now : EvaluatorState) (level : ℕ) (pairs : List ℕ) (least : Option ℕ) : Type 0 where
  pub going : now.halted ≡ false
  pub rest : KeepsRest first now
  pub done : IsDoneBefore now level
  pub listed : IsListing (λ p. IsMinimal (IsDiagnosis first.system) p × (size p < level)) PairBefore pairs
  pub least_is : IsLeastOf (map (cost first.system) pairs) least
  pub taken : (k : ℕ) → k < level → IsTaken first k

-- the least cost is less than so many marks of the least weight cost
abbrev pub IsBelowMarks : System → ℕ → Option ℕ → Type 0
IsBelowMarks m level None = ⊥
IsBelowMarks m level (Some price) = (weight : ℕ) × IsLeastWeight m weight × (price < level * weight)

-- the levels before this one are enough: what they have costs less than any other pair, or there is no further level
abbrev pub IsEnough : System → ℕ → Option ℕ → Type 0
IsEnough m level least = IsBelowMarks m level least ⊎ IsPast m level

-- they were taken
pub record HasTakenEnough (first now : EvaluatorState) (level : ℕ) (pairs : List ℕ) (least : Option ℕ) : Type 0 where
  pub valid : IsValid first.system
  pub searching : IsSearching first now level pairs least
  pub enough : IsEnough first.system level least

-- the levels up to the stop level were taken, and these are the cheapest diagnoses
pub record HasStopped (first now : EvaluatorState) (pairs : List ℕ) : Type 0 where
  pub valid : IsValid first.system
  pub listed : IsListing (IsCheapest first.system) PairBefore pairs
  pub stop : ℕ
  pub is_stop : IsStopLevel first.system stop
  pub level_done : now.done ≡ Some stop
  pub settled : IsEvaluatorSettled now
  pub taken : (k : ℕ) → k ≤ stop → IsTaken first k
