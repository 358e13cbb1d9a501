-- What is kept of each context, so that its derivations take no reading of formulas and names.
use Rattle.std.specs.Prelude.{◌≡◌, ℕ, ◌≤◌, cond, false, IsTrue, List, [], ◌∷◌, map, get_or, length, Some, slice_get, ◌⊎◌, Option, IfSome}
use Rattle.std.specs.List.{AllByRecursion, AllZip}
use Rattle.std.specs.BTreeMap.{BTreeMap, get}
use Rattle.std.specs.Ordering.{nat_cmp}
use Rattle.mcs_sets.specs.Sets.{has, single, union, Within}
use Rattle.mcs_system.specs.Plain.{Name, Formula, Atom, ProgramRule, Classical, Program, Context, Read, Bridge, System}
use Rattle.mcs_system.specs.Atoms.{atoms_of}
use Rattle.mcs_system.specs.Faults.{IsValid, has_twins}
use Rattle.mcs_system.specs.Logic.{true_names}
use Rattle.mcs_system.specs.Systems.{variables_of, IsVariable, IsAcceptedPart}
use Rattle.mcs_system.specs.Views.{beliefs_at}
use Rattle.mcs_meant.specs.Meanings.{AreMeantBy}
use Rattle.mcs_classical.specs.Assumptions.{AreHeads}
use Rattle.mcs_classical.specs.Consequences.{AreConsequences}
use Rattle.mcs_classical.specs.declared.assumptions.Assumption.{Assumption}
use Rattle.mcs_evidence.specs.Programs.{IsInRange}
use Rattle.mcs_program.specs.Placing.{do_meet, IsPlaceOf, ArePlaces}
use Rattle.mcs_reduct.specs.Plain.{IsPlain}
use Rattle.mcs_grounded.specs.Derivations.{rules_for, IsCone}
use Rattle.mcs_grounded.specs.declared.placed.NormalRule.{NormalRule}
use Rattle.mcs_grounded.specs.declared.places.Places.{Places}
use Rattle.mcs_grounded.specs.declared.cone.Cone.{Cone}
use Rattle.mcs_grounded.specs.declared.basis.Derivation.{Derivation}
use Rattle.mcs_grounded.specs.declared.found.Solver.{Solver}

-- ---- rules by the places of their atoms
-- at most 64 names, each of which is there once
pub record AreNames (names : List Name) : Type 0 where
  pub few : length names ≤ 64
  pub different : has_twins names ≡ false

pub record IsNormalRule (names : List Name) (r : ProgramRule) (n : NormalRule) : Type 0 where
  pub atom : Name
  pub one_head : r.head ≡ atom ∷ []
  pub head : IsPlaceOf names atom n.head
  pub positive : ArePlaces names r.pos n.pos
  pub negative : ArePlaces names r.neg n.neg

-- the rule is in the reduct by the places, and its positive body lies within the others
pub record DoesFire (against places : ℕ) (r : NormalRule) : Type 0 where
  pub in_reduct : (k : ℕ) → IsTrue (has r.neg k) → ¬ IsTrue (has against k)
  pub supported : Within r.pos places

-- the places have the head of each rule of the reduct whose positive body they have
abbrev pub AreClosedUnder : List NormalRule → ℕ → ℕ → Type 0
AreClosedUnder rules against places = AllByRecursion (λ (r : NormalRule). DoesFire against places r → IsTrue (has places r.head)) rules

-- the places are the least that have these and are closed
pub record IsLeastModel (rules : List NormalRule) (against start places : ℕ) : Type 0 where
  pub more : Within start places
  pub closed : AreClosedUnder rules against places
  pub least : (others : ℕ) → Within start others → AreClosedUnder rules against others → Within places others

-- of all rules these were passed, from these places on
pub record HaveHeadsOf (all rules : List NormalRule) (against places more : ℕ) : Type 0 where
  pub more_than : Within places more
  pub closed : Within more places → AreClosedUnder rules against places
  pub least : (others : ℕ) → Within places others → AreClosedUnder all against others → Within more others

-- with the head of a rule the places have its body
abbrev pub AreDependent : List NormalRule → ℕ → Type 0
AreDependent rules places = AllByRecursion (λ (r : NormalRule). IsTrue (has places r.head) → Within (union r.pos r.neg) places) rules

-- the places are the least that have these and all on which they depend
pub record IsDependent (rules : List NormalRule) (start places : ℕ) : Type 0 where
  pub more : Within start places
  pub dependent : AreDependent rules places
  pub least : (others : ℕ) → Within start others → AreDependent rules others → Within places others

-- of all rules these were passed, from these places on
pub record HaveBodiesOf (all rules : List NormalRule) (places more : ℕ) : Type 0 where
  pub more_than : Within places more
  pub dependent : Within more places → AreDependent rules places
  pub least : (others : ℕ) → Within places others → AreDependent all others → Within more others

-- ---- contexts
-- context i has the program of these rules
abbrev pub IsProgramAt : System → ℕ → List ProgramRule → Type 0
IsProgramAt m i rules = (c : Context) × (slice_get m.contexts i ≡ Some c) × (c.kb ≡ Program rules)

abbrev pub IsProgramContext : System → ℕ → Type 0
IsProgramContext m i = (rules : List ProgramRule) × IsProgramAt m i rules

-- context i is classical, with these formulas
abbrev pub IsClassicalAt : System → ℕ → List Formula → Type 0
IsClassicalAt m i formulas = (c : Context) × (slice_get m.contexts i ≡ Some c) × (c.kb ≡ Classical formulas)

-- ---- places of atoms
-- if the formula is an atom, this is its place among the names
abbrev pub IsPlaced : List Name → Formula → ℕ → Type 0
IsPlaced names f places = (n : Name) → f ≡ Atom n → ArePlaces names (n ∷ []) places

-- the places of the heads of rules, and of the beliefs of variables, each by its number
abbrev pub AreHeadsPlaced : System → List ℕ → Type 0
AreHeadsPlaced m heads = (k : ℕ) (b : Bridge) → slice_get m.bridges k ≡ Some b → IsPlaced (atoms_of m b.target) b.head (get_or heads k 0)

abbrev pub AreReadsPlaced : System → List ℕ → Type 0
AreReadsPlaced m reads = (v : ℕ) (r : Read) → IsVariable m v r → IsPlaced (atoms_of m r.context) r.belief (get_or reads v 0)

pub record ArePlaced (m : System) (p : Places) : Type 0 where
  pub valid : IsValid m
  pub heads : AreHeadsPlaced m p.heads
  pub reads : AreReadsPlaced m p.reads

-- with the places, those in the sets that have these numbers
abbrev pub places_at : List ℕ → ℕ → List ℕ → ℕ
places_at sets places [] = places
places_at sets places (k ∷ ks) = places_at sets (union places (get_or sets k 0)) ks

-- with the chosen numbers, those of these whose sets meet the places
abbrev pub numbers_at : List ℕ → ℕ → ℕ → List ℕ → ℕ
numbers_at sets places chosen [] = chosen
numbers_at sets places chosen (k ∷ ks) = numbers_at sets places (cond (do_meet (get_or sets k 0) places) (union chosen (single k)) chosen) ks

-- ---- cones
-- of a program: the cone and its rules
pub record IsConeOf (m : System) (i : ℕ) (rules : List ProgramRule) (c : Cone) : Type 0 where
  pub in_range : IsInRange (atoms_of m i) c.places
  pub cone : IsCone m i rules (true_names 0 (atoms_of m i) c.places)
  pub placed : AllZip (IsNormalRule (atoms_of m i)) (rules_for (true_names 0 (atoms_of m i) c.places) rules) c.rules.items

-- so it is if the context has a program, and otherwise there are no places
pub record IsConeFor (m : System) (i : ℕ) (c : Cone) : Type 0 where
  pub of_program : (rules : List ProgramRule) → IsProgramAt m i rules → IsConeOf m i rules c
  pub or_none : IsProgramContext m i ⊎ (c.places ≡ 0)

-- for each context of the system, which is a valid one
pub record AreConesOf (m : System) (all : List Cone) : Type 0 where
  pub valid : IsValid m
  pub one_each : length all ≡ length m.contexts
  pub own : (i : ℕ) (c : Cone) → slice_get all i ≡ Some c → IsConeFor m i c

-- their places
abbrev pub cones_of : List Cone → List ℕ
cones_of all = map (λ (c : Cone). c.places) all

-- ---- classical contexts
-- what is kept for a set of rules is what context i tells with their heads
abbrev pub AreToldOf : System → ℕ → BTreeMap ℕ ℕ → Type 0
AreToldOf m i told = (x τ : ℕ) → get nat_cmp told x ≡ Some τ → IsAcceptedPart m i x τ

-- the clauses mean the formulas of context i, what was found to follow is right of these and of the heads of rules into it, and what it was found to tell is right too
pub record IsSolverOf (m : System) (i : ℕ) (s : Solver) : Type 0 where
  pub meant : (formulas : List Formula) → IsClassicalAt m i formulas → AreMeantBy (atoms_of m i) formulas s.clauses
  pub right : (formulas : List Formula) → IsClassicalAt m i formulas → (heads : List Assumption) → AreHeads m i heads → AreConsequences formulas heads (beliefs_at m (variables_of m i)) s.found
  pub told : AreToldOf m i s.told

-- the context is classical, and the solver is its own
pub record CanSolve (m : System) (i : ℕ) (s : Solver) : Type 0 where
  pub formulas : List Formula
  pub classical : IsClassicalAt m i formulas
  pub own : IsSolverOf m i s

-- ---- what was found
-- the solver of context i, if there is one, is its own
abbrev pub IsFoundOf : System → ℕ → Option Solver → Type 0
IsFoundOf m i solver = IfSome solver (IsSolverOf m i)

-- context i is classical, with these formulas, and this was found of it
pub record CanTell (m : System) (i : ℕ) (formulas : List Formula) (solver : Option Solver) : Type 0 where
  pub classical : IsClassicalAt m i formulas
  pub known : IsFoundOf m i solver

-- so it is for each context
pub record AreAllFound (m : System) (all : List (Option Solver)) : Type 0 where
  pub one_each : length all ≡ length m.contexts
  pub own : (i : ℕ) (solver : Option Solver) → slice_get all i ≡ Some solver → IsFoundOf m i solver

-- ---- derivations
-- the system is plain, and the places and the cones are its own
pub record IsSetUp (d : Derivation) : Type 0 where
  pub plain : IsPlain d.system.now
  pub places : ArePlaced d.system.now d.places.now
  pub cones : AreConesOf d.system.now d.cones.now

-- so was what was found
pub record IsDerivation (d : Derivation) (known : List (Option Solver)) : Type 0 where
  pub set_up : IsSetUp d
  pub found : AreAllFound d.system.now known
