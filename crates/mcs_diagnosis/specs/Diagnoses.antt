-- The minimal diagnoses of a level, as they are shown.
use Rattle.std.specs.Prelude.{◌≡◌, ℕ, ◌<◌, List, map}
use Rattle.std.specs.List.{AllByRecursion}
use Rattle.mcs_sets.specs.Sets.{size, union, minus}
use Rattle.mcs_sets.specs.Orders.{PairBefore}
use Rattle.mcs_base.specs.Listings.{IsListing}
use Rattle.mcs_base.specs.Minimal.{IsMinimal}
use Rattle.mcs_base.specs.Pairs.{removed_of, forced_of}
use Rattle.mcs_system.specs.Plain.{System}
use Rattle.mcs_system.specs.Repairs.{IsDiagnosis}
use Rattle.mcs_system.specs.Systems.{applicable}
use Rattle.mcs_states.specs.First.{IsFirstState}
use Rattle.mcs_diagnosis.specs.declared.diagnosis.Diagnosis as code

-- a minimal diagnosis of so many marks
abbrev pub IsDiagnosisOfSize : System → ℕ → ℕ → Type 0
IsDiagnosisOfSize m level p = IsMinimal (IsDiagnosis m) p × (size p ≡ level)

-- exactly the pairs of the minimal diagnoses of so many marks, in the order of pairs
abbrev pub ArePairsOfSize : System → ℕ → List ℕ → Type 0
ArePairsOfSize m level pairs = IsListing (IsDiagnosisOfSize m level) PairBefore pairs

-- the rules that apply, without the removed and with the forced
abbrev pub active_in : System → ℕ → ℕ → ℕ
active_in m pair σ = union (minus (applicable m σ) (removed_of pair)) (forced_of pair)

-- it shows the first state of the changed system, and the rules that are active in it
pub record ShowsFirstState (m : System) (d : code.Diagnosis) : Type 0 where
  pub state : IsFirstState m d.pair d.state
  pub active : d.active ≡ active_in m d.pair d.state

-- the diagnosis of this pair, as it is shown
pub record IsShownOf (m : System) (pair : ℕ) (d : code.Diagnosis) : Type 0 where
  pub same : d.pair ≡ pair
  pub shown : ShowsFirstState m d

abbrev pub pairs_of : List code.Diagnosis → List ℕ
pairs_of ds = map (λ (d : code.Diagnosis). d.pair) ds

-- exactly the minimal diagnoses of so many marks, in the order of pairs, each as it is shown
pub record AreShownDiagnoses (m : System) (level : ℕ) (ds : List code.Diagnosis) : Type 0 where
  pub listed : IsListing (IsDiagnosisOfSize m level) PairBefore (pairs_of ds)
  pub shown : AllByRecursion (ShowsFirstState m) ds

-- exactly the minimal diagnoses with fewer marks than the level, in the order of pairs, each as it is shown
pub record AreFoundBelow (m : System) (level : ℕ) (ds : List code.Diagnosis) : Type 0 where
  pub listed : IsListing (λ p. IsMinimal (IsDiagnosis m) p × (size p < level)) PairBefore (pairs_of ds)
  pub shown : AllByRecursion (ShowsFirstState m) ds

-- exactly the minimal diagnoses, in the order of pairs, each as it is shown
pub record AreDiagnoses (m : System) (ds : List code.Diagnosis) : Type 0 where
  pub listed : IsListing (IsMinimal (IsDiagnosis m)) PairBefore (pairs_of ds)
  pub shown : AllByRecursion (ShowsFirstState m) ds
