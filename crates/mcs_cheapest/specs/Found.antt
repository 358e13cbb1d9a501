-- What a search for the cheapest diagnoses tells, and why it breaks off.
use Rattle.std.specs.Prelude.{◌≡◌, ℕ, ◌<◌, ◌≤◌, List, Option, Some, None, Result, IfOk, IfErr}
use Rattle.std.specs.List.{AllByRecursion}
use Rattle.mcs_sets.specs.Orders.{PairBefore}
use Rattle.mcs_base.specs.Listings.{IsListing}
use Rattle.mcs_system.specs.Levels.{IsCount}
use Rattle.mcs_system.specs.Plain.{System}
use Rattle.mcs_system.specs.Repairs.{IsDiagnosis}
use Rattle.mcs_states.specs.Evaluators.{EvaluatorState, KeepsRest, IsEvaluatorSettled, ExceedsBudget, IsUnanswered, HasHaltCause, IsHaltOf}
use Rattle.mcs_states.specs.declared.halt.Halt.{Halt}
use Rattle.mcs_diagnosis.specs.declared.diagnosis.Diagnosis as shown
use Rattle.mcs_diagnosis.specs.Diagnoses.{ShowsFirstState, pairs_of}
use Rattle.mcs_costs.specs.Costs.{cost, IsCheapest, IsStopLevel, IsUpToStop}
use Rattle.mcs_cheapest.specs.declared.cheapest.Cheapest as code

-- exactly the cheapest diagnoses, in the order of pairs, each as it is shown
pub record AreShownCheapest (m : System) (ds : List shown.Diagnosis) : Type 0 where
  pub listed : IsListing (IsCheapest m) PairBefore (pairs_of ds)
  pub shown : AllByRecursion (ShowsFirstState m) ds

-- what a cheapest diagnosis costs; nothing where there is no diagnosis
abbrev pub IsLeastCost : System → Option ℕ → Type 0
IsLeastCost m None = (pair : ℕ) → ¬ IsDiagnosis m pair
IsLeastCost m (Some price) = (pair : ℕ) × IsCheapest m pair × (cost m pair ≡ price)

-- The search came to its end. The levels up to the stop level were taken: this one is the greatest done, and the evaluator is settled, so that its journals hold exactly the questions of it.
pub record HasSearched (e e' : EvaluatorState) (c : code.Cheapest) : Type 0 where
  pub found : AreShownCheapest e.system c.found.items
  pub cost : IsLeastCost e.system c.cost
  pub stop : ℕ
  pub is_stop : IsStopLevel e.system stop
  pub need : IsCount e.system stop c.need
  pub level_done : e'.done ≡ Some stop
  pub settled : IsEvaluatorSettled e'
  pub within : (k : ℕ) → k ≤ stop → ¬ ExceedsBudget e k
  pub answered : (k i x : ℕ) → k ≤ stop → ¬ IsUnanswered e k i x

-- It broke off at a level that it takes, for a cause that a call of this level has. No lower level has more questions than the budget, or one without an answer.
pub record HasBrokenOff (e e' : EvaluatorState) (halt : Halt) : Type 0 where
  pub level : ℕ
  pub up_to_stop : IsUpToStop e.system level
  pub cause : HasHaltCause e level halt
  pub told : IsHaltOf e' halt
  pub within : (k : ℕ) → k < level → ¬ ExceedsBudget e k
  pub answered : (k i x : ℕ) → k < level → ¬ IsUnanswered e k i x

-- the search, or a part of it, found what it wants, or broke off; nothing else of the evaluator was changed
pub record Searches {T : Type 0} (Wanted : T → Type 0) (e e' : EvaluatorState) (r : Result T Halt) : Type 0 where
  pub found : IfOk r Wanted
  pub stop : IfErr r (HasBrokenOff e e')
  pub rest : KeepsRest e e'
