-- The search for the cheapest diagnoses by an evaluator that tells them alone.
use Rattle.std.specs.Prelude.{◌≡◌, ℕ, ◌+◌, ◌<◌, ◌≤◌, false, List}
use Rattle.std.specs.List.{AllByRecursion}
use Rattle.mcs_sets.specs.Sets.{size}
use Rattle.mcs_system.specs.Faults.{IsValid}
use Rattle.mcs_system.specs.Plain.{System}
use Rattle.mcs_system.specs.Repairs.{IsDiagnosis}
use Rattle.mcs_states.specs.Calls.{CanEvaluate}
use Rattle.mcs_states.specs.Evaluators.{EvaluatorState, KeepsRest}
use Rattle.mcs_diagnosis.specs.declared.diagnosis.Diagnosis as shown
use Rattle.mcs_diagnosis.specs.Diagnoses.{ShowsFirstState, pairs_of}
use Rattle.mcs_costs.specs.Costs.{AreCheapest, SettlesNone}
use Rattle.mcs_cheapest.specs.declared.least.Told as code
use Rattle.mcs_cheapest.specs.Searching.{IsDoneBefore, IsTaken}

-- the levels before this one were taken
pub record IsAsking (first now : EvaluatorState) (level : ℕ) : Type 0 where
  pub going : now.halted ≡ false
  pub rest : KeepsRest first now
  pub done : IsDoneBefore now level
  pub taken : (k : ℕ) → k < level → IsTaken first k

-- and no level below the candidate, which is this level or a higher one, settles of a diagnosis that none costs less
pub record IsLooking (first now : EvaluatorState) (level candidate : ℕ) : Type 0 where
  pub asking : IsAsking first now level
  pub ahead : level ≤ candidate
  pub not_yet : (k : ℕ) → k < candidate → SettlesNone first.system k

-- these are the cheapest diagnoses, and the levels up to this one were taken
pub record HasTold (first now : EvaluatorState) (level : ℕ) (pairs : List ℕ) : Type 0 where
  pub valid : IsValid first.system
  pub listed : AreCheapest first.system pairs
  pub asking : IsAsking first now (level + 1)

-- diagnoses of the system that can be shown, where these were shown before
pub record CanShow (m : System) (e : EvaluatorState) (pairs : List ℕ) (before : List shown.Diagnosis) : Type 0 where
  pub can : CanEvaluate m e
  pub diagnoses : AllByRecursion (IsDiagnosis m) pairs
  pub known : AllByRecursion (ShowsFirstState m) before

-- the diagnoses of these pairs, each as it is shown
pub record AreShown (m : System) (pairs : List ℕ) (ds : List shown.Diagnosis) : Type 0 where
  pub paired : pairs_of ds ≡ pairs
  pub shown : AllByRecursion (ShowsFirstState m) ds

-- and none of them has more marks than this level
pub record HasReached (first now : EvaluatorState) (level : ℕ) (pairs : List ℕ) : Type 0 where
  pub told : HasTold first now level pairs
  pub few : AllByRecursion (λ p. size p ≤ level) pairs

-- pairs were told with a level, as one of the two above says, beside diagnoses that were shown before
abbrev pub IsTold : (EvaluatorState → EvaluatorState → ℕ → List ℕ → Type 0) → EvaluatorState → EvaluatorState → code.Told → Type 0
IsTold Tells first now told = Tells first now told.level told.pairs.items × AllByRecursion (ShowsFirstState first.system) told.shown.items

-- the greatest of their numbers of marks, and 0 of none
pub record IsMostMarks (pairs : List ℕ) (most : ℕ) : Type 0 where
  pub all : AllByRecursion (λ p. size p ≤ most) pairs
  pub least : (n : ℕ) → AllByRecursion (λ p. size p ≤ n) pairs → most ≤ n
