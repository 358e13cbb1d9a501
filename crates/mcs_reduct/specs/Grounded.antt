-- Grounded equilibria of a plain system. The notion is this project's own: an equilibrium that is the least one of a reduct. That it agrees with the grounded equilibria of Brewka and Eiter (2007) is not claimed.
use Rattle.std.specs.Prelude.{◌≡◌, ℕ, List, Some, slice_get}
use Rattle.std.specs.List.{AllByRecursion}
use Rattle.mcs_sets.specs.Orders.{StateBefore}
use Rattle.mcs_base.specs.Listings.{IsListing}
use Rattle.mcs_system.specs.Plain.{Atom, System}
use Rattle.mcs_system.specs.Logic.{BeliefSet, Theory, Atoms, Believes}
use Rattle.mcs_system.specs.Systems.{IsProjection, IsProjectedEquilibrium, all_rules}
use Rattle.mcs_reduct.specs.Reducts.{IsReductEquilibrium}

-- the second belief set has each atom of the first, or believes each formula of it
abbrev pub LiesWithin : BeliefSet → BeliefSet → Type 0
LiesWithin (Atoms names) c = AllByRecursion (λ n. Believes c (Atom n)) names
LiesWithin (Theory formulas) c = AllByRecursion (Believes c) formulas

-- so it is in each context
abbrev pub IsWithin : List BeliefSet → List BeliefSet → Type 0
IsWithin s t = (i : ℕ) (b c : BeliefSet) → slice_get s i ≡ Some b → slice_get t i ≡ Some c → LiesWithin b c

-- s is an equilibrium of the reduct by s, and lies within each equilibrium of it
pub record IsGrounded (m : System) (s : List BeliefSet) : Type 0 where
  pub balanced : IsReductEquilibrium m s s
  pub least : (t : List BeliefSet) → IsReductEquilibrium m s t → IsWithin s t

-- σ is the projection of a grounded equilibrium
pub record IsGroundedState (m : System) (σ : ℕ) : Type 0 where
  pub state : List BeliefSet
  pub grounded : IsGrounded m state
  pub projection : IsProjection m state σ

-- the listing of the projected equilibria
abbrev pub AreAllStates : System → List ℕ → Type 0
AreAllStates m states = IsListing (IsProjectedEquilibrium m (all_rules m) 0) StateBefore states

-- the listing of the grounded ones
abbrev pub AreGrounded : System → List ℕ → Type 0
AreGrounded m states = IsListing (IsGroundedState m) StateBefore states
