-- What costs, cheapest diagnoses and stop levels have in common: each is the contract of a function of `laws`.
use Rattle.std.specs.Prelude.{◌≡◌, ◌↔◌, ℕ, ◌/◌, ◌≤◌, min, length}
use Rattle.mcs_sets.specs.Sets.{size, Within}
use Rattle.mcs_base.specs.Minimal.{IsMinimal}
use Rattle.mcs_system.specs.Plain.{System}
use Rattle.mcs_system.specs.Faults.{IsValid}
use Rattle.mcs_system.specs.Repairs.{IsDiagnosis}
use Rattle.mcs_costs.specs.Costs.{cost, IsCheapest, IsLeastWeight, IsStopLevel}

-- a pair costs no more than one that has all its marks
abbrev pub CostsGrow : Type 0
CostsGrow = (m : System) (pair other : ℕ) → Within pair other → cost m pair ≤ cost m other

-- ---- cheapest diagnoses
-- a cheapest diagnosis is minimal
abbrev pub CheapestAreMinimal : Type 0
CheapestAreMinimal = (m : System) (pair : ℕ) → IsValid m → IsCheapest m pair → IsMinimal (IsDiagnosis m) pair

-- and has at most as many marks as the stop level says
abbrev pub CheapestHaveFewMarks : Type 0
CheapestHaveFewMarks = (m : System) (pair stop : ℕ) → IsValid m → IsCheapest m pair → IsStopLevel m stop → size pair ≤ stop

-- where there is a diagnosis, there is a cheapest one
abbrev pub CheapestExist : Type 0
CheapestExist = (m : System) (pair : ℕ) → IsDiagnosis m pair → (best : ℕ) × IsCheapest m best

-- ---- stop levels
-- the stop level is the least cost divided by the least weight, rounded down, but no more than there are rules
abbrev pub StopLevelIsQuotient : Type 0
StopLevelIsQuotient = (m : System) (pair weight level : ℕ) → IsValid m → IsCheapest m pair → IsLeastWeight m weight → IsStopLevel m level ↔ (level ≡ min (cost m pair / weight) (length m.bridges))

-- where there is no diagnosis it is the number of rules
abbrev pub StopLevelWithoutDiagnoses : Type 0
StopLevelWithoutDiagnoses = (m : System) (level : ℕ) → ((pair : ℕ) → ¬ IsDiagnosis m pair) → IsStopLevel m level ↔ (level ≡ length m.bridges)

-- there is one
abbrev pub StopLevelsExist : Type 0
StopLevelsExist = (m : System) → IsValid m → (level : ℕ) × IsStopLevel m level

-- and no other
abbrev pub StopLevelsAreOne : Type 0
StopLevelsAreOne = (m : System) (level other : ℕ) → IsStopLevel m level → IsStopLevel m other → level ≡ other
