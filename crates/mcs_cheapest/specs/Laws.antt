-- That the cheapest diagnoses have one listing and one cost: the contract of a function of `laws`.
use Rattle.std.specs.Prelude.{◌≡◌, ℕ, List, Option}
use Rattle.mcs_system.specs.Plain.{System}
use Rattle.mcs_diagnosis.specs.declared.diagnosis.Diagnosis as shown
use Rattle.mcs_cheapest.specs.Found.{AreShownCheapest, IsLeastCost}

-- the cheapest diagnoses have a listing
abbrev pub CheapestAreListed : Type 0
CheapestAreListed = (m : System) → (ds : List shown.Diagnosis) × AreShownCheapest m ds

-- and only one
abbrev pub CheapestAreOne : Type 0
CheapestAreOne = (m : System) (ds es : List shown.Diagnosis) → AreShownCheapest m ds → AreShownCheapest m es → ds ≡ es

-- there is a least cost, or no diagnosis
abbrev pub LeastCostsExist : Type 0
LeastCostsExist = (m : System) → (price : Option ℕ) × IsLeastCost m price

-- and no two
abbrev pub LeastCostsAreOne : Type 0
LeastCostsAreOne = (m : System) (price other : Option ℕ) → IsLeastCost m price → IsLeastCost m other → price ≡ other
