-- That each system has a listing of its projected equilibria, and each level a number of questions.
use Rattle.std.specs.Prelude.{ℕ, List}
use Rattle.mcs_sets.specs.Orders.{StateBefore}
use Rattle.mcs_base.specs.Listings.{IsListing}
use Rattle.mcs_system.specs.Plain.{System}
use Rattle.mcs_system.specs.Systems.{IsProjectedEquilibrium}
use Rattle.mcs_system.specs.Levels.{IsCount}

-- the projected equilibria of a system have a listing, also where it is changed
abbrev pub StatesHaveAListing : Type 0
StatesHaveAListing = (m : System) (r1 r2 : ℕ) → (xs : List ℕ) × IsListing (IsProjectedEquilibrium m r1 r2) StateBefore xs

-- a level has a number of questions
abbrev pub CountsExist : Type 0
CountsExist = (m : System) (level : ℕ) → (n : ℕ) × IsCount m level n
