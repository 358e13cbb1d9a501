-- States by their projections, and the rules that act in them.
use Rattle.std.specs.Prelude.{◌≡◌, ℕ, IsTrue, List, length, Some, slice_get}
use Rattle.std.specs.List.{AllByRecursion}
use Rattle.mcs_sets.specs.Sets.{has}
use Rattle.mcs_system.specs.Plain.{Bridge, System}
use Rattle.mcs_system.specs.Logic.{BeliefSet}
use Rattle.mcs_system.specs.Systems.{all_rules, AcceptsWith, BelievesIn, IsEquilibrium, IsProjection}
use Rattle.mcs_reduct.specs.Reducts.{reduced_system}

-- s is an equilibrium of the system, and σ is its projection
pub record IsShownBy (m : System) (σ : ℕ) (s : List BeliefSet) : Type 0 where
  pub balanced : IsEquilibrium m (all_rules m) 0 s
  pub projection : IsProjection m s σ

-- the positive reads of each rule of x are believed in t
abbrev pub DoAct : System → List BeliefSet → ℕ → Type 0
DoAct m t x = (k : ℕ) (b : Bridge) → IsTrue (has x k) → slice_get m.bridges k ≡ Some b → AllByRecursion (BelievesIn t) b.pos

-- each context of the reduct by s accepts its belief set in u with the heads of x
pub record AreAcceptedWith (m : System) (s : List BeliefSet) (x : ℕ) (u : List BeliefSet) : Type 0 where
  pub one_each : length u ≡ length m.contexts
  pub accepted : (i : ℕ) (b : BeliefSet) → slice_get u i ≡ Some b → AcceptsWith (reduced_system m s) i x b
