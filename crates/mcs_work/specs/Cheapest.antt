-- The listing of the cheapest diagnoses of a system: its text, its stages, and what the laws say of them.
use Rattle.std.specs.Prelude.{◌≡◌, ◌⊎◌, ◌↔◌, ℕ, ◌+◌, nat_eq, cond, Bool, false, IsTrue, List, [], ◌∷◌, ◌++◌, length, Option, Some, None}
use Rattle.mcs_system.specs.Faults.{IsValid}
use Rattle.mcs_system.specs.Levels.{IsCount}
use Rattle.mcs_system.specs.Plain.{System}
use Rattle.mcs_system.specs.Systems.{IsConsistent}
use Rattle.mcs_states.specs.declared.halt.Halt.{Halt}
use Rattle.mcs_states.specs.declared.halt.Halt.TheVariants as halts
use Rattle.mcs_diagnosis.specs.declared.diagnosis.Diagnosis as code
use Rattle.mcs_costs.specs.Costs.{cost, IsStopLevel}
use Rattle.mcs_cheapest.specs.Found.{AreShownCheapest, IsLeastCost}
use Rattle.mcs_report.specs.Listing.{heading, verdict_line}
use Rattle.mcs_report.specs.Cheapest.{cheapest_line, cheapest_end_line}

-- a line for each diagnosis, with what it costs, numbered from k on
abbrev pub cheapest_lines : System → ℕ → List code.Diagnosis → List ℕ
cheapest_lines m k [] = []
cheapest_lines m k (d ∷ ds) = cheapest_line m k (cost m d.pair) d ++ cheapest_lines m (k + 1) ds

-- what comes after the heading
abbrev pub after_search : System → Bool → List code.Diagnosis → Option ℕ → ℕ → List ℕ
after_search m consistent found price need = verdict_line consistent ++ (cheapest_lines m 1 found ++ cheapest_end_line (length found) price need)

abbrev pub cheapest_text : System → Bool → List code.Diagnosis → Option ℕ → ℕ → List ℕ
cheapest_text m consistent found price need = heading m ++ after_search m consistent found price need

-- the text of the cheapest diagnoses, all of them, each once, in the order of pairs, with the verdict, with what each of them costs, and with the number of the questions of the stop level
pub record IsCheapestText (m : System) (text : List ℕ) : Type 0 where
  pub consistent : Bool
  pub verdict : IsTrue consistent ↔ IsConsistent m
  pub found : List code.Diagnosis
  pub cheapest : AreShownCheapest m found
  pub price : Option ℕ
  pub price_is : IsLeastCost m price
  pub stop : ℕ
  pub stop_is : IsStopLevel m stop
  pub need : ℕ
  pub count : IsCount m stop need
  pub text_is : text ≡ cheapest_text m consistent found price need

-- a stage of it: the heading; the verdict too, where the system is inconsistent; the whole
abbrev pub IsCheapestStage : System → List ℕ → Type 0
IsCheapestStage m text = (text ≡ heading m) ⊎ (((¬ IsConsistent m) × (text ≡ heading m ++ verdict_line false)) ⊎ IsCheapestText m text)

-- above level 0 the verdict is known: it is the one of an inconsistent system
abbrev pub verdict_above : ℕ → List ℕ
verdict_above level = cond (nat_eq level 0) [] (verdict_line false)

-- what is printed before this level is evaluated, once it is known that the budget does not allow it
abbrev pub IsCheapestUpTo : System → ℕ → List ℕ → Type 0
IsCheapestUpTo m level text = text ≡ heading m ++ verdict_above level

-- what is printed after the heading where the search broke off
abbrev pub verdict_before : Halt → List ℕ
verdict_before (halts.Spent level drawn) = verdict_above level
verdict_before (halts.Missing context active) = []
verdict_before halts.Memory = []

-- there is a diagnosis that costs nothing
abbrev pub is_free : Option ℕ → Bool
is_free None = false
is_free (Some price) = nat_eq price 0

-- ---- laws
-- a system has at most one such text
abbrev pub CheapestTextsAreOne : Type 0
CheapestTextsAreOne = (m : System) (text other : List ℕ) → IsCheapestText m text → IsCheapestText m other → text ≡ other

-- each stage is a front of it
abbrev pub CheapestStagesAreFronts : Type 0
CheapestStagesAreFronts = (m : System) (stage text : List ℕ) → IsCheapestStage m stage → IsCheapestText m text → (rest : List ℕ) × (stage ++ rest ≡ text)

-- and a valid system has one
abbrev pub CheapestTextsExist : Type 0
CheapestTextsExist = (m : System) → IsValid m → (text : List ℕ) × IsCheapestText m text
