-- What the laws say of grounded equilibria: each is the contract of a function of `laws`.
use Rattle.std.specs.Prelude.{◌≡◌, ℕ, true, false, ◌↔◌, List, [], ◌∷◌, ◌⊎◌}
use Rattle.mcs_system.specs.Plain.{Classical, DefaultTheory, Program, System}
use Rattle.mcs_system.specs.Logic.{BeliefSet, Atoms}
use Rattle.mcs_system.specs.Systems.{all_rules, IsEquilibrium, IsProjectedEquilibrium}
use Rattle.mcs_laws.specs.Examples.{name_a, name_b, p, p_by_default}
use Rattle.mcs_reduct.specs.Plain.{is_plain, IsPlain}
use Rattle.mcs_reduct.specs.Reducts.{reduced_system, with_rules, AreUnblocked, IsReductEquilibrium}
use Rattle.mcs_reduct.specs.Grounded.{IsWithin, IsGrounded, IsGroundedState, AreGrounded}
use Rattle.mcs_reduct.specs.Examples.{name_p, name_q, mutual_support, mutual_attack, itself_or_other, one_of_two, two_choices, no_a, a_or_a}

-- a grounded belief state is an equilibrium
abbrev pub GroundedAreEquilibria : Type 0
GroundedAreEquilibria = (m : System) (s : List BeliefSet) → IsPlain m → IsGrounded m s → IsEquilibrium m (all_rules m) 0 s

-- so the grounded states are among the projected equilibria
abbrev pub GroundedStatesAreStates : Type 0
GroundedStatesAreStates = (m : System) (σ : ℕ) → IsPlain m → IsGroundedState m σ → IsProjectedEquilibrium m (all_rules m) 0 σ

-- the grounded equilibria of a plain system have a listing
abbrev pub GroundedHaveAListing : Type 0
GroundedHaveAListing = (m : System) → IsPlain m → (states : List ℕ) × AreGrounded m states

-- each reduct has one set of rules. This needs both that it has no number but those of rules, and which of them it has.
abbrev pub ReductsHaveOneRuleSet : Type 0
ReductsHaveOneRuleSet = (m : System) (s : List BeliefSet) → (rules : ℕ) × AreUnblocked m s rules × ((others : ℕ) → AreUnblocked m s others → others ≡ rules)

-- to keep the other rules by their numbers is to drop the blocked ones from the list
abbrev pub BlockedRulesAreDropped : Type 0
BlockedRulesAreDropped = (m : System) (s t : List BeliefSet) (rules : ℕ) → AreUnblocked m s rules
    → IsReductEquilibrium m s t ↔ IsEquilibrium (with_rules (reduced_system m s) rules) (all_rules (with_rules (reduced_system m s) rules)) 0 t

-- formulas are plain, and so are rules with one head, also with negation; a constraint, a disjunction, even of one atom twice, and a default are not
abbrev pub OneHeadIsPlain : Type 0
OneHeadIsPlain =
    (is_plain (Classical (p ∷ [])) ≡ true) × (is_plain (Program one_of_two) ≡ true) × (is_plain (Program no_a) ≡ false)
    × (is_plain (Program a_or_a) ≡ false) × (is_plain (DefaultTheory p_by_default) ≡ false)

-- two rules that only support each other are an equilibrium, and no grounded one: this is that where neither acts. This needs that the state is least, in the sense of theories.
abbrev pub MutualSupportIsNotGrounded : Type 0
MutualSupportIsNotGrounded = IsProjectedEquilibrium mutual_support (all_rules mutual_support) 0 3 × ((σ : ℕ) → IsGroundedState mutual_support σ ↔ (σ ≡ 0))

-- of two rules, each against what the other one tells, either is grounded. This needs that blocked rules are dropped, and that the state is an equilibrium of its reduct.
abbrev pub MutualAttackIsGrounded : Type 0
MutualAttackIsGrounded = (σ : ℕ) → IsGroundedState mutual_attack σ ↔ ((σ ≡ 1) ⊎ (σ ≡ 2))

-- of two equilibria, neither of which lies within the other, one alone is grounded: that in which no rule supports itself. This needs that the other rules lose their negative reads, and that the state is least, in the sense of atoms.
abbrev pub MinimalIsNotGrounded : Type 0
MinimalIsNotGrounded =
    IsEquilibrium itself_or_other (all_rules itself_or_other) 0 (Atoms (name_p ∷ []) ∷ [])
    × IsEquilibrium itself_or_other (all_rules itself_or_other) 0 (Atoms (name_q ∷ []) ∷ [])
    × (¬ IsWithin (Atoms (name_p ∷ []) ∷ []) (Atoms (name_q ∷ []) ∷ []))
    × (¬ IsWithin (Atoms (name_q ∷ []) ∷ []) (Atoms (name_p ∷ []) ∷ []))
    × ((σ : ℕ) → IsGroundedState itself_or_other σ ↔ (σ ≡ 0))

-- what each of two programs chooses by negation is grounded. This needs that programs are reduced, each by its own belief set.
abbrev pub ChoicesAreGrounded : Type 0
ChoicesAreGrounded = IsGrounded two_choices (Atoms (name_a ∷ []) ∷ Atoms (name_b ∷ []) ∷ [])
