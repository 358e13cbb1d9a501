-- Worked systems whose rules are kept or closed, evaluated.
use Rattle.std.proofs.Common.{◌≡◌, ℕ, ◌<◌, ◌≤◌, zero, suc, Bool, true, false, not, ◌&&◌, [], ◌∷◌, refl, sym, ap, ◌∙◌, subst, inl, inr, arith, true≢false}
use Rattle.mcs_sets.specs.Sets.{has, common, union, minus, single, such_that, members, members_from, size, Within}
use Rattle.mcs_sets.proofs.SetLemmas.{Within-le}
use Rattle.mcs_sets.proofs.Lattice.{none_within, size-none}
use Rattle.mcs_base.specs.Pairs.{removed_of, forced_of}
use Rattle.mcs_base.proofs.Ranges.{zero_or_one}
use Rattle.mcs_system.specs.Plain.{System}
use Rattle.mcs_system.specs.Systems.{variables, variables_of, all_rules, applicable, acting_at, believed_at, IsAcceptedPart, IsProjectedEquilibrium}
use Rattle.mcs_system.specs.Repairs.{allowed_marks, marks_of, IsDiagnosis}
use Rattle.mcs_system.specs.Imports.{rules_into, marks_at}
use Rattle.mcs_system.specs.Rows.{inputs_of}
use Rattle.mcs_system.specs.Atoms.{atoms_of}
use Rattle.mcs_system.specs.Levels.{IsQuestionAt}
use Rattle.mcs_system.specs.Faults.{exceeds, fault_of}
use Rattle.mcs_laws.specs.Laws.{KeptIsForced, ClosedIsRemoved, BarredIsUnrepaired, KeptIsAsked, ClosedIsNotAsked, WeightsAreLimited}
use Rattle.mcs_laws.specs.Examples.{p_of_0, against_itself_where, kept_fact, closed_never}
use Rattle.mcs_laws.proofs.Choices.{consistent_where_nothing}
use Rattle.mcs_laws.proofs.Need.{alone_first}
use Rattle.mcs_laws.proofs.Projections.{from_parts}
use Rattle.mcs_laws.proofs.Tiny.{has-1, all_variables-against, variables_of-against, rests, acts, has_none}
use Rattle.mcs_laws.proofs.Transversals.{explains}

-- ---- small sets
no_0_in_2 : has 2 0 ≡ false
unfolding has
no_0_in_2 = refl

one_in_2 : has 2 1 ≡ true
unfolding has
one_in_2 = refl

no_1_in_1 : has 1 1 ≡ false
unfolding has
no_1_in_1 = refl

-- ---- the rule against its own context
module _ (keep closed : Bool) where
  abbrev against : System
  against = against_itself_where keep closed

  acting-removed : acting_at against 0 0 0 ≡ 0
  unfolding applicable variables such_that union single common has
  acting-removed = refl

  acting-forced : acting_at against 1 1 1 ≡ 1
  unfolding applicable variables such_that union single common has
  acting-forced = refl

  resting : IsProjectedEquilibrium against 0 0 0
  resting = from_parts against 0 0 0 (none_within _) part
    where
      part : (i : ℕ) → i < 1 → IsAcceptedPart against i (acting_at against 0 0 0) (common 0 (variables_of against i))
      part zero less = rw (acting-removed, variables_of-against keep closed) (rests keep closed)
      part (suc i) less = absurd (omega arith)

  acting : IsProjectedEquilibrium against 1 1 1
  acting = from_parts against 1 1 1 (λ k h. rw (all_variables-against keep closed) h) part
    where
      part : (i : ℕ) → i < 1 → IsAcceptedPart against i (acting_at against 1 1 1) (common 1 (variables_of against i))
      part zero less = rw (acting-forced, variables_of-against keep closed) (acts keep closed)
      part (suc i) less = absurd (omega arith)

  left-removed : minus (all_rules against) (removed_of 1) ≡ 0
  unfolding minus such_that union single removed_of has
  left-removed = refl

  left-forced : minus (all_rules against) (removed_of 2) ≡ 1
  unfolding minus such_that union single removed_of has
  left-forced = refl

  none_forced : forced_of 1 ≡ 0
  unfolding such_that union single forced_of has
  none_forced = refl

  one_forced : forced_of 2 ≡ 1
  unfolding such_that union single forced_of has
  one_forced = refl

  removed : Within 1 (allowed_marks against) → IsDiagnosis against 1
  removed allowed = record { allowed = allowed; equilibrium = 0; balanced = rw (left-removed, none_forced) resting }

  forced : Within 2 (allowed_marks against) → IsDiagnosis against 2
  forced allowed = record { allowed = allowed; equilibrium = 1; balanced = rw (left-forced, one_forced) acting }

  unchanged : ¬ IsDiagnosis against 0
  unchanged d = let c = consistent_where_nothing against d in has_none keep closed c.equilibrium c.balanced

-- ---- kept
allowed-kept : allowed_marks (against_itself_where true false) ≡ 2
unfolding allowed_marks such_that union single
allowed-kept = refl

only_forced : (pair : ℕ) → IsDiagnosis (against_itself_where true false) pair → pair ≤ 2 → pair ≡ 2
only_forced zero d small = absurd (unchanged true false d)
only_forced (suc zero) d small = absurd (true≢false (sym (d.allowed 0 has-1) ∙ ap (λ s. has s 0) allowed-kept ∙ no_0_in_2))
only_forced (suc (suc zero)) d small = refl
only_forced (suc (suc (suc n))) d small = absurd (omega arith)

pub kept_is_forced : KeptIsForced
kept_is_forced pair = (
  λ d. only_forced pair d (let small = Within-le pair _ d.allowed in rw allowed-kept at small),
  λ e. rw e (forced true false (rw allowed-kept (λ k h. h))),
)

-- ---- closed
allowed-closed : allowed_marks (against_itself_where false true) ≡ 1
unfolding allowed_marks such_that union single
allowed-closed = refl

only_removed : (pair : ℕ) → IsDiagnosis (against_itself_where false true) pair → pair ≤ 1 → pair ≡ 1
only_removed zero d small = absurd (unchanged false true d)
only_removed (suc zero) d small = refl
only_removed (suc (suc n)) d small = absurd (omega arith)

pub closed_is_removed : ClosedIsRemoved
closed_is_removed pair = (
  λ d. only_removed pair d (let small = Within-le pair _ d.allowed in rw allowed-closed at small),
  λ e. rw e (removed false true (rw allowed-closed (λ k h. h))),
)

-- ---- both
allowed-barred : allowed_marks (against_itself_where true true) ≡ 0
unfolding allowed_marks such_that union single
allowed-barred = refl

none : (pair : ℕ) → IsDiagnosis (against_itself_where true true) pair → pair ≤ 0 → ⊥
none zero d small = unchanged true true d
none (suc n) d small = omega arith

unrepaired : (pair : ℕ) → ¬ IsDiagnosis (against_itself_where true true) pair
unrepaired pair d = none pair d (let small = Within-le pair _ d.allowed in rw allowed-barred at small)

pub barred_is_unrepaired : BarredIsUnrepaired
barred_is_unrepaired = (unrepaired, explains (against_itself_where true true) 0 (none_within _) (λ e d. absurd (unrepaired e d)))

-- ---- a kept rule that always applies
rules_into-kept : rules_into kept_fact 0 ≡ 1
unfolding rules_into such_that union single
rules_into-kept = refl

allowed-fact : allowed_marks kept_fact ≡ 2
unfolding allowed_marks such_that union single
allowed-fact = refl

marks-without : (σ : ℕ) → marks_at kept_fact 0 σ 0 ≡ 1
unfolding applicable rules_into variables marks_of such_that union single common minus has
marks-without σ = refl

marks-with : (σ : ℕ) → marks_at kept_fact 0 σ 1 ≡ 0
unfolding applicable rules_into variables marks_of such_that union single common minus has
marks-with σ = refl

with_rule : (level : ℕ) → IsQuestionAt kept_fact level 0 1
with_rule level = (
  0 ∷ [],
  alone_first kept_fact refl,
  record {
    of_rules = rw rules_into-kept (λ k h. h);
    state = 0;
    of_variables = none_within _;
    supplies = λ j nothing. absurd nothing;
    allowed = rw (marks-with 0) (none_within _);
    near = (let e = ap size (marks-with 0) ∙ size-none in omega arith);
  },
)

without_rule : (σ : ℕ) → ¬ Within (marks_at kept_fact 0 σ 0) (allowed_marks kept_fact)
without_rule σ allowed = true≢false (sym (allowed 0 (ap (λ s. has s 0) (marks-without σ) ∙ has-1)) ∙ ap (λ s. has s 0) allowed-fact ∙ no_0_in_2)

pub kept_is_asked : KeptIsAsked
kept_is_asked level x = (
  λ (order, is, question). elim (zero_or_one x (rw rules_into-kept at (Within-le x _ question.of_rules))) [
    | inl e ↦ e
    | inr rest ↦ elim rest [
      | inl e ↦ absurd (without_rule question.state (subst (λ (y : ℕ). Within (marks_at kept_fact 0 question.state y) (allowed_marks kept_fact)) e question.allowed))
      | inr nothing ↦ absurd nothing
    ]
  ],
  λ e. rw e (with_rule level),
)

-- ---- a closed rule that never applies
rules_into-closed : rules_into closed_never 0 ≡ 1
unfolding rules_into such_that union single
rules_into-closed = refl

allowed-never : allowed_marks closed_never ≡ 1
unfolding allowed_marks such_that union single
allowed-never = refl

never_both : (v : Bool) → ((v && true) && (not v && true)) ≡ false
never_both true = refl
never_both false = refl

never : (σ : ℕ) → applicable closed_never σ ≡ 0
unfolding applicable such_that
never σ = rw (never_both (believed_at closed_never σ p_of_0)) refl

marks-forced : (σ : ℕ) → marks_at closed_never 0 σ 1 ≡ 2
unfolding rules_into marks_of such_that union single common minus has
marks-forced σ = rw (never σ) refl

marks-left : (σ : ℕ) → marks_at closed_never 0 σ 0 ≡ 0
unfolding rules_into marks_of such_that union single common minus has
marks-left σ = rw (never σ) refl

left_out : (level : ℕ) → IsQuestionAt closed_never level 0 0
left_out level = (
  0 ∷ [],
  alone_first closed_never refl,
  record {
    of_rules = none_within _;
    state = 0;
    of_variables = none_within _;
    supplies = λ j nothing. absurd nothing;
    allowed = rw (marks-left 0) (none_within _);
    near = (let e = ap size (marks-left 0) ∙ size-none in omega arith);
  },
)

not_forced : (σ : ℕ) → ¬ Within (marks_at closed_never 0 σ 1) (allowed_marks closed_never)
not_forced σ allowed = true≢false (sym (allowed 1 (ap (λ s. has s 1) (marks-forced σ) ∙ one_in_2)) ∙ ap (λ s. has s 1) allowed-never ∙ no_1_in_1)

pub closed_is_not_asked : ClosedIsNotAsked
closed_is_not_asked level x = (
  λ (order, is, question). elim (zero_or_one x (rw rules_into-closed at (Within-le x _ question.of_rules))) [
    | inl e ↦ absurd (not_forced question.state (subst (λ (y : ℕ). Within (marks_at closed_never 0 question.state y) (allowed_marks closed_never)) e question.allowed))
    | inr rest ↦ elim rest [ inl e ↦ e | inr nothing ↦ absurd nothing ]
  ],
  λ e. rw e (left_out level),
)

-- ---- weights
pub weights_are_limited : WeightsAreLimited
unfolding fault_of exceeds variables inputs_of atoms_of such_that union single members members_from has
weights_are_limited = (refl, refl, refl, refl)
