-- What a context tells with the heads of some rules, where its program is reduced by a set of atoms that bounds its answer sets; and which rules are derived so from nothing.
use Rattle.std.specs.Prelude.{◌≡◌, ℕ, ◌<◌, IsTrue, ◌↔◌, List, ◌++◌, filter, length, get_or, ◌⊎◌, Some, slice_get}
use Rattle.std.specs.List.{AllByRecursion, list_any, filter_map}
use Rattle.mcs_sets.specs.Sets.{has, common, Within}
use Rattle.mcs_system.specs.Plain.{Name, Atom, ProgramRule, Kb, Classical, Program, Context, Read, Bridge, System}
use Rattle.mcs_system.specs.Atoms.{atoms_of}
use Rattle.mcs_system.specs.Imports.{rules_into}
use Rattle.mcs_system.specs.Logic.{is_in, true_names, reduct, fact_of, BeliefSet, Theory, Atoms, Believes, IsAnswerSet}
use Rattle.mcs_system.specs.Systems.{variables_of, applicable, heads_into, BelievesIn, IsVariable}
use Rattle.mcs_evidence.specs.Pushing.{AreNamesOf}
use Rattle.mcs_reduct.specs.Shown.{IsShownBy, DoAct, AreAcceptedWith}
use Rattle.mcs_reduct.specs.Reducts.{names_believed, IsReductEquilibrium}

-- ---- cones
-- the rules that have a head atom among the names
abbrev pub rules_for : List Name → List ProgramRule → List ProgramRule
rules_for names rules = filter (λ r. list_any (λ n. is_in n names) r.head) rules

abbrev pub IsBodyWithin : List Name → ProgramRule → Type 0
IsBodyWithin names r = AreNamesOf names r.pos × AreNamesOf names r.neg

-- the names have each atom of context i that is read, and with an atom each one that its rules in the program read
pub record IsCone (m : System) (i : ℕ) (rules : List ProgramRule) (names : List Name) : Type 0 where
  pub read : (v : ℕ) (r : Read) (n : Name) → IsVariable m v r → r.context ≡ i → r.belief ≡ Atom n → IsTrue (is_in n names)
  pub bodies : AllByRecursion (IsBodyWithin names) (rules_for names rules)

-- ---- what a context tells
-- the variables of context i that are believed in b
abbrev pub Tells : System → ℕ → BeliefSet → ℕ → Type 0
Tells m i b τ = (v : ℕ) → IsTrue (has τ v) ↔ ((r : Read) × IsVariable m v r × (r.context ≡ i) × Believes b r.belief)

-- what follows with the heads of x; or, of a program, what is in the answer set of the rules for the cone, reduced by the names, with these heads
abbrev pub Derives : System → ℕ → List Name → List Name → Kb → ℕ → ℕ → Type 0
Derives m i cone names (Classical formulas) x τ = Tells m i (Theory (formulas ++ heads_into m i x)) τ
Derives m i cone names (Program rules) x τ = (a : List Name) × IsAnswerSet (reduct names (rules_for cone rules) ++ filter_map fact_of (heads_into m i x)) a × Tells m i (Atoms a) τ
Derives m i cone names kb x τ = ⊥

-- the atoms of context i at the places of the i-th of these sets
abbrev pub atoms_at : System → List ℕ → ℕ → List Name
atoms_at m sets i = true_names 0 (atoms_of m i) (get_or sets i 0)

-- ---- bounds
-- the sets have each atom of the cones that s has
abbrev pub AreAbove : System → List ℕ → List ℕ → List BeliefSet → Type 0
AreAbove m cones sets s = (i : ℕ) (b : BeliefSet) (n : Name) → slice_get s i ≡ Some b → IsTrue (is_in n (atoms_at m cones i)) → IsTrue (is_in n (names_believed b)) → IsTrue (is_in n (atoms_at m sets i))

-- x has each rule into context i that applies in σ
abbrev pub IsWhole : System → ℕ → ℕ → ℕ → Type 0
IsWhole m σ x i = Within (common (applicable m σ) (rules_into m i)) x

-- the sets have no other atoms than s, except in contexts that x makes whole
abbrev pub AreBelow : System → ℕ → ℕ → List ℕ → List BeliefSet → Type 0
AreBelow m σ x sets s = (i : ℕ) (b : BeliefSet) (n : Name) → slice_get s i ≡ Some b → ¬ IsWhole m σ x i → IsTrue (is_in n (atoms_at m sets i)) → IsTrue (is_in n (names_believed b))

-- ---- derivations
-- what context i tells with the heads of x, where it is taken to tell its part of σ once it is whole
abbrev pub IsTold : System → ℕ → List ℕ → List ℕ → ℕ → ℕ → ℕ → Type 0
IsTold m σ cones sets x i τ =
    (IsWhole m σ x i × (τ ≡ common σ (variables_of m i)))
    ⊎ ((¬ IsWhole m σ x i) × ((c : Context) → slice_get m.contexts i ≡ Some c → Derives m i (atoms_at m cones i) (atoms_at m sets i) c.kb x τ))

-- so each context does with its part of the set
abbrev pub AreTold : System → ℕ → List ℕ → List ℕ → ℕ → ℕ → Type 0
AreTold m σ cones sets x believed = (i : ℕ) → i < length m.contexts → IsTold m σ cones sets x i (common believed (variables_of m i))

-- the rules of x, each of which applies in σ, were derived from nothing: they act in each equilibrium of a reduct by a state of which the sets are above; and no other rule that applies in σ acts with their heads in a reduct by a state of which the sets are below
pub record IsDerived (m : System) (σ : ℕ) (cones sets : List ℕ) (x : ℕ) : Type 0 where
  pub within : Within x (applicable m σ)
  pub founded : (s t : List BeliefSet) → IsShownBy m σ s → AreAbove m cones sets s → IsReductEquilibrium m s t → DoAct m t x
  pub closed : (s u : List BeliefSet) → IsShownBy m σ s → AreBelow m σ x sets s → AreAcceptedWith m s x u
      → (k : ℕ) (b : Bridge) → IsTrue (has (applicable m σ) k) → slice_get m.bridges k ≡ Some b → AllByRecursion (BelievesIn u) b.pos → IsTrue (has x k)
