-- The answer sets of a program with the heads of the rules that apply in a state, through the atoms of its cone.
use Rattle.std.specs.Prelude.{◌≡◌, ℕ, IsTrue, ◌↔◌, List, [], map, get_or}
use Rattle.mcs_sets.specs.Sets.{has, common, members}
use Rattle.mcs_base.specs.Listings.{IsAmong}
use Rattle.mcs_system.specs.Plain.{Name, ProgramRule, Program, System}
use Rattle.mcs_system.specs.Atoms.{atoms_of}
use Rattle.mcs_system.specs.Logic.{is_in, true_names, BeliefSet, Atoms, Accepts, with_heads}
use Rattle.mcs_system.specs.Systems.{variables_of, applicable, heads_into, AcceptsWith}
use Rattle.mcs_reduct.specs.Reducts.{names_believed}
use Rattle.mcs_grounded.specs.Derivations.{Tells}
use Rattle.mcs_grounded.specs.Parts.{cones_of, numbers_at}
use Rattle.mcs_grounded.specs.declared.basis.Derivation.{Derivation}

-- the name at a place, and those at the places of a set, ascending
abbrev pub name_at : List Name → ℕ → Name
name_at names k = get_or names k []

abbrev pub names_there : List Name → ℕ → List Name
names_there names places = map (name_at names) (members places)

-- the set has the places of the cone whose names are among these
abbrev pub IsPartAt : List Name → ℕ → List Name → ℕ → Type 0
IsPartAt names cone a set = (k : ℕ) → IsTrue (has set k) ↔ (IsTrue (has cone k) × IsTrue (is_in (name_at names k) a))

-- a is an answer set of the rules with the heads of those that apply in σ
abbrev pub IsAnswerAt : System → ℕ → ℕ → List ProgramRule → List Name → Type 0
IsAnswerAt m σ i rules a = Accepts (with_heads (Program rules) (heads_into m i (applicable m σ))) (Atoms a)

-- the sets are what answer sets have of the cone
pub record AreConeSets (m : System) (σ i : ℕ) (rules : List ProgramRule) (cone : ℕ) (sets : List ℕ) : Type 0 where
  pub each : (set : ℕ) → IsAmong set sets → (a : List Name) × IsAnswerAt m σ i rules a × IsPartAt (atoms_of m i) cone a set
  pub all : (a : List Name) → IsAnswerAt m σ i rules a → (set : ℕ) × IsAmong set sets × IsPartAt (atoms_of m i) cone a set

-- the variables of context i whose atoms are at these places
abbrev pub shown_at : Derivation → ℕ → ℕ → ℕ
shown_at d i places = numbers_at d.places.now.reads places 0 (members (variables_of d.system.now i))

-- exactly those of the sets that show the state's part of context i
abbrev pub AreShown : Derivation → ℕ → List ℕ → List ℕ → Type 0
AreShown d i sets found = (set : ℕ) → IsAmong set found ↔ (IsAmong set sets × (shown_at d i set ≡ common d.state (variables_of d.system.now i)))

-- of the atoms at the places of the cone the belief set has those at these places
abbrev pub HasOfCone : System → ℕ → ℕ → ℕ → BeliefSet → Type 0
HasOfCone m i cone places b = (n : Name) → IsTrue (is_in n (true_names 0 (atoms_of m i) cone))
    → IsTrue (is_in n (names_believed b)) ↔ IsTrue (is_in n (true_names 0 (atoms_of m i) places))

-- a belief set that context i accepts with the rules that apply in σ shows its part of σ, and has these atoms of the cone
pub record IsConeView (m : System) (σ i cone places : ℕ) : Type 0 where
  pub belief : BeliefSet
  pub accepted : AcceptsWith m i (applicable m σ) belief
  pub tells : Tells m i belief (common σ (variables_of m i))
  pub within : (n : Name) → IsTrue (is_in n (true_names 0 (atoms_of m i) places)) → IsTrue (is_in n (true_names 0 (atoms_of m i) cone))
  pub atoms : HasOfCone m i cone places belief

-- each is such a view, and each such belief set has the atoms of one
pub record AreViewsOf (m : System) (σ i cone : ℕ) (views : List ℕ) : Type 0 where
  pub each : (places : ℕ) → IsAmong places views → IsConeView m σ i cone places
  pub all : (b : BeliefSet) → AcceptsWith m i (applicable m σ) b → Tells m i b (common σ (variables_of m i)) → (places : ℕ) × IsAmong places views × HasOfCone m i cone places b

abbrev pub AreConeViews : Derivation → ℕ → List ℕ → Type 0
AreConeViews d i views = AreViewsOf d.system.now d.state i (get_or (cones_of d.cones.now) i 0) views
