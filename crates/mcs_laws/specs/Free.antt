-- The notions of repairs as they are where each rule may be removed and each may be forced.
use Rattle.std.specs.Prelude.{◌≡◌, ℕ, ◌≤◌, false, IsTrue, List, [], ◌∷◌, reverse, ◌⊎◌, length, ◌<◌}
use Rattle.std.specs.List.{AllByRecursion}
use Rattle.mcs_sets.specs.Sets.{common, minus, size, Within, Meets}
use Rattle.mcs_base.specs.Listings.{IsAmong}
use Rattle.mcs_base.specs.Pairs.{removed_of, forced_of}
use Rattle.mcs_system.specs.Plain.{Bridge, System}
use Rattle.mcs_system.specs.Systems.{all_rules, all_variables, variables_of, IsAcceptedPart, IsProjectedEquilibrium}
use Rattle.mcs_system.specs.Repairs.{all_marks}
use Rattle.mcs_system.specs.Imports.{imports, before_in, rules_into, marks_at}
use Rattle.mcs_system.specs.Rows.{local_of}

-- no rule is kept, and none is closed
abbrev pub IsUnbarred : System → Type 0
IsUnbarred m = AllByRecursion (λ (b : Bridge). (b.keep ≡ false) × (b.closed ≡ false)) m.bridges

abbrev pub IsFreeDiagnosis : System → ℕ → Type 0
IsFreeDiagnosis m pair = Within pair (all_marks m) × ((σ : ℕ) × IsProjectedEquilibrium m (minus (all_rules m) (removed_of pair)) (forced_of pair) σ)

pub record IsFreeExplanation (m : System) (pair : ℕ) : Type 0 where
  pub of_rules : Within pair (all_marks m)
  pub none : (r1 r2 : ℕ) → Within (removed_of pair) r1 → Within r1 (all_rules m) → Within r2 (all_rules m) → ¬ Meets r2 (forced_of pair) → (σ : ℕ) → ¬ IsProjectedEquilibrium m r1 r2 σ

abbrev pub IsFreeChoice : System → ℕ → ℕ → Type 0
IsFreeChoice m σ x = Within x (all_rules m) × (Within σ (all_variables m) × ((i : ℕ) → i < length m.contexts → IsAcceptedPart m i x (common σ (variables_of m i))))

-- x is a question to i, where `earlier` are the contexts that stand before i, and poss j holds of what j may supply
pub record IsFreeQuestionAfter (m : System) (level : ℕ) (earlier : List ℕ) (poss : ℕ → ℕ → Type 0) (i x : ℕ) : Type 0 where
  pub of_rules : Within x (rules_into m i)
  pub believed : ℕ
  pub of_variables : Within believed (all_variables m)
  pub supplies : (j : ℕ) → IsAmong j earlier → IsTrue (imports m i j) → poss j (common believed (variables_of m j))
  pub near : size (marks_at m i believed x) ≤ level

-- what j may supply, where the list has j and the contexts before it, the last one first
abbrev pub IsFreePossibleFrom : System → ℕ → List ℕ → ℕ → ℕ → Type 0
IsFreePossibleFrom m level [] j τ = ⊥
IsFreePossibleFrom m level (c ∷ cs) j τ =
    ((c ≡ j) × ((x : ℕ) × IsFreeQuestionAfter m level cs (IsFreePossibleFrom m level cs) j x × IsAcceptedPart m j x τ))
    ⊎ ((¬ (c ≡ j)) × IsFreePossibleFrom m level cs j τ)

abbrev pub IsFreeQuestion : System → List ℕ → ℕ → ℕ → ℕ → Type 0
IsFreeQuestion m order level i x = IsFreeQuestionAfter m level (reverse (before_in order i)) (IsFreePossibleFrom m level (reverse (before_in order i))) i x

abbrev pub IsFreePossible : System → List ℕ → ℕ → ℕ → ℕ → Type 0
IsFreePossible m order level j τ = (x : ℕ) × IsFreeQuestion m order level j x × IsAcceptedPart m j x τ

pub record IsFreeRow (m : System) (order : List ℕ) (level i state marks : ℕ) : Type 0 where
  pub whole : ℕ
  pub of_variables : Within whole (all_variables m)
  pub asked : ℕ
  pub of_rules : Within asked (rules_into m i)
  pub accepted : IsAcceptedPart m i asked (common whole (variables_of m i))
  pub supplies : (j : ℕ) → IsAmong j (before_in order i) → IsTrue (imports m i j) → IsFreePossible m order level j (common whole (variables_of m j))
  pub state_is : common whole (local_of m i) ≡ state
  pub marks_is : marks_at m i whole asked ≡ marks
  pub few : size marks ≤ level
