-- The search for a grounded belief state among those with one projection.
use Rattle.std.specs.Prelude.{◌≡◌, ℕ, ◌+◌, ◌<◌, ◌≤◌, nat_eq, cond, Bool, true, false, IsTrue, List, [], ◌∷◌, length, get_or, slice_set, Some, slice_get}
use Rattle.mcs_sets.specs.Sets.{common}
use Rattle.mcs_system.specs.Plain.{Name, System}
use Rattle.mcs_system.specs.Logic.{is_in, BeliefSet}
use Rattle.mcs_system.specs.Systems.{variables_of, all_rules, applicable, AcceptsWith, IsProjectedEquilibrium}
use Rattle.mcs_reduct.specs.Reducts.{names_believed}
use Rattle.mcs_reduct.specs.Grounded.{IsGrounded, IsGroundedState}
use Rattle.mcs_reduct.specs.Shown.{IsShownBy}
use Rattle.mcs_grounded.specs.Derivations.{atoms_at, Tells, IsWhole}
use Rattle.mcs_grounded.specs.Parts.{cones_of, IsProgramContext}
use Rattle.mcs_grounded.specs.declared.bounds.Bounds.{Bounds}
use Rattle.mcs_grounded.specs.declared.cone.Cone.{Cone}
use Rattle.mcs_grounded.specs.declared.basis.Derivation.{Derivation}

-- of the atoms of context i no other ones are possible than those that are certain
abbrev pub IsKnown : Bounds → ℕ → Type 0
IsKnown bounds i = get_or bounds.certain i 0 ≡ get_or bounds.possible i 0

-- of the atoms in the cone of context i the belief set has all the certain ones, and none but possible ones
pub record IsBounded (m : System) (cones : List ℕ) (bounds : Bounds) (i : ℕ) (b : BeliefSet) : Type 0 where
  pub certain : (n : Name) → IsTrue (is_in n (atoms_at m bounds.certain i)) → IsTrue (is_in n (names_believed b))
  pub possible : (n : Name) → IsTrue (is_in n (atoms_at m cones i)) → IsTrue (is_in n (names_believed b)) → IsTrue (is_in n (atoms_at m bounds.possible i))

-- s is an equilibrium with this projection, within the bounds
pub record IsCandidate (m : System) (σ : ℕ) (cones : List ℕ) (bounds : Bounds) (s : List BeliefSet) : Type 0 where
  pub shown : IsShownBy m σ s
  pub bounded : (i : ℕ) (b : BeliefSet) → slice_get s i ≡ Some b → IsBounded m cones bounds i b

-- context i accepts, with the rules that apply in σ, a belief set that shows its part of σ, within the bounds
pub record HasCandidate (m : System) (σ : ℕ) (cones : List ℕ) (bounds : Bounds) (i : ℕ) : Type 0 where
  pub belief : BeliefSet
  pub accepted : AcceptsWith m i (applicable m σ) belief
  pub tells : Tells m i belief (common σ (variables_of m i))
  pub bounded : IsBounded m cones bounds i belief

abbrev pub HaveCandidates : System → ℕ → List ℕ → Bounds → Type 0
HaveCandidates m σ cones bounds = (i : ℕ) → i < length m.contexts → HasCandidate m σ cones bounds i

-- there is a set of each sort for each context, and both are one but for programs
pub record AreBoundsOf (m : System) (bounds : Bounds) : Type 0 where
  pub certain : length m.contexts ≤ length bounds.certain
  pub possible : length m.contexts ≤ length bounds.possible
  pub of_programs : (i : ℕ) → ¬ IsKnown bounds i → IsProgramContext m i

-- the context is not whole, and its atoms are not known
pub record IsOpen (m : System) (σ : ℕ) (bounds : Bounds) (rules i : ℕ) : Type 0 where
  pub in_range : i < length m.contexts
  pub not_whole : ¬ IsWhole m σ rules i
  pub not_known : ¬ IsKnown bounds i

-- the atoms of each context that is not whole are known
abbrev pub NoneIsOpen : System → ℕ → Bounds → ℕ → Type 0
NoneIsOpen m σ bounds rules = (i : ℕ) → i < length m.contexts → ¬ IsWhole m σ rules i → IsKnown bounds i

-- at first no atom is certain, and each one of a cone is possible
pub record AreFirstBounds (cones : List Cone) (bounds : Bounds) : Type 0 where
  pub long : length bounds.certain ≡ 64
  pub as_long : length bounds.possible ≡ 64
  pub certain : (i : ℕ) → get_or bounds.certain i 0 ≡ 0
  pub possible : (i : ℕ) → get_or bounds.possible i 0 ≡ get_or (cones_of cones) i 0

-- the atoms of context i are told, and of the others nothing changes
pub record IsToldAt (before : Bounds) (i atoms : ℕ) (after : Bounds) : Type 0 where
  pub certain : after.certain ≡ slice_set before.certain i atoms
  pub possible : after.possible ≡ slice_set before.possible i atoms

-- in how many places the two lists differ
abbrev pub differences : List ℕ → List ℕ → ℕ
differences [] ys = 0
differences (x ∷ xs) [] = 0
differences (x ∷ xs) (y ∷ ys) = cond (nat_eq x y) (differences xs ys) (differences xs ys + 1)

abbrev pub open_contexts : Bounds → ℕ
open_contexts bounds = differences bounds.certain bounds.possible

-- no candidate is grounded
abbrev pub NoneIsGrounded : System → ℕ → List ℕ → Bounds → Type 0
NoneIsGrounded m σ cones bounds = (s : List BeliefSet) → IsCandidate m σ cones bounds s → ¬ IsGrounded m s

-- ---- the search
-- the state is a projected equilibrium of the system
abbrev pub IsOfState : Derivation → Type 0
IsOfState d = IsProjectedEquilibrium d.system.now (all_rules d.system.now) 0 d.state

-- and there is a belief set of each context within the bounds
pub record CanSearch (d : Derivation) (bounds : Bounds) : Type 0 where
  pub state : IsOfState d
  pub bounds_of : AreBoundsOf d.system.now bounds
  pub candidates : HaveCandidates d.system.now d.state (cones_of d.cones.now) bounds

-- the answer is right: if it is yes, the state is grounded, and if it is no, no candidate is
abbrev pub IsAnswer : System → ℕ → List ℕ → Bounds → Bool → Type 0
IsAnswer m σ cones bounds true = IsGroundedState m σ
IsAnswer m σ cones bounds false = NoneIsGrounded m σ cones bounds
