-- Diagnoses and explanations (Eiter, Fink, Schüller & Weinzierl 2014), and the choices that repairs come from.
use Rattle.std.specs.Prelude.{ℕ, ◌*◌, ◌/◌, ◌%◌, ◌<◌, cond, nat_eq, Bool, true, false, not, length, slice_get, Option, Some, None}
use Rattle.mcs_sets.specs.Sets.{has, common, minus, such_that, Within, Meets}
use Rattle.mcs_base.specs.Pairs.{removed_of, forced_of}
use Rattle.mcs_system.specs.Plain.{Bridge, System}
use Rattle.mcs_system.specs.Systems.{all_rules, all_variables, variables_of, applicable, IsAcceptedPart, IsProjectedEquilibrium}

abbrev pub mark_of : ℕ → ℕ → ℕ → Bool
mark_of a b k = cond (nat_eq (k % 2) 0) (has a (k / 2)) (has b (k / 2))

-- the marks of a pair of sets of rules
unfoldable pub marks_of : System → ℕ → ℕ → ℕ
marks_of m a b = such_that (2 * length m.bridges) (mark_of a b)

unfoldable pub all_marks : System → ℕ
all_marks m = such_that (2 * length m.bridges) (λ k. true)

-- ---- what a repair may change
abbrev pub is_kept : Option Bridge → Bool
is_kept None = false
is_kept (Some b) = b.keep

abbrev pub is_closed : Option Bridge → Bool
is_closed None = false
is_closed (Some b) = b.closed

-- the rules that may not be removed
unfoldable pub kept_rules : System → ℕ
kept_rules m = such_that (length m.bridges) (λ r. is_kept (slice_get m.bridges r))

-- the rules that may not be forced
unfoldable pub closed_rules : System → ℕ
closed_rules m = such_that (length m.bridges) (λ r. is_closed (slice_get m.bridges r))

-- the mark 2r where rule r may be removed, and the mark 2r + 1 where it may be forced
abbrev pub is_allowed : System → ℕ → Bool
is_allowed m k = cond (nat_eq (k % 2) 0) (not (is_kept (slice_get m.bridges (k / 2)))) (not (is_closed (slice_get m.bridges (k / 2))))

-- the marks that a repair may have
unfoldable pub allowed_marks : System → ℕ
allowed_marks m = such_that (2 * length m.bridges) (is_allowed m)

pub record IsDiagnosis (m : System) (pair : ℕ) : Type 0 where
  pub allowed : Within pair (allowed_marks m)
  pub equilibrium : ℕ
  pub balanced : IsProjectedEquilibrium m (minus (all_rules m) (removed_of pair)) (forced_of pair) equilibrium

-- what a repair may leave and force: all rules of r1 and of r2 are there, each kept rule is in r1 and no closed one is in r2
pub record IsChange (m : System) (r1 r2 : ℕ) : Type 0 where
  pub of_rules : Within r1 (all_rules m)
  pub forced_of_rules : Within r2 (all_rules m)
  pub kept : Within (kept_rules m) r1
  pub none_closed : ¬ Meets r2 (closed_rules m)

-- no change that leaves all of the first set and forces none of the second has an equilibrium
pub record IsExplanation (m : System) (pair : ℕ) : Type 0 where
  pub of_rules : Within pair (all_marks m)
  pub none : (r1 r2 : ℕ) → IsChange m r1 r2 → Within (removed_of pair) r1 → ¬ Meets r2 (forced_of pair) → (σ : ℕ) → ¬ IsProjectedEquilibrium m r1 r2 σ

-- the marks of a choice: the applicable rules that are not in x, and the rules of x that are not applicable
abbrev pub choice_marks : System → ℕ → ℕ → ℕ
choice_marks m σ x = marks_of m (minus (applicable m σ) x) (minus x (applicable m σ))

-- σ and the rules of x make a choice: each context accepts its part of σ with the rules of x
pub record IsChoice (m : System) (σ x : ℕ) : Type 0 where
  pub of_rules : Within x (all_rules m)
  pub of_variables : Within σ (all_variables m)
  pub allowed : Within (choice_marks m σ x) (allowed_marks m)
  pub accepted : (i : ℕ) → i < length m.contexts → IsAcceptedPart m i x (common σ (variables_of m i))
