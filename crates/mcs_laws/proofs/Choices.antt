-- Minimal diagnoses come from choices, and what a consistent system has.
use Rattle.std.proofs.Common.{◌≡◌, ℕ, ◌+◌, ◌*◌, Bool, true, false, not, ◌&&◌, ◌||◌, refl, sym, ap, ◌∙◌, subst, inl, inr, ◌↔◌, arith, true≢false}
use Rattle.std.proofs.lemmas.Bool.Decides.{nat_tests}
use Rattle.mcs_sets.specs.Sets.{has, common, minus, Within}
use Rattle.mcs_sets.proofs.SetLemmas.{same_set, has-empty, has-minus, has-union, has-common}
use Rattle.mcs_base.specs.Minimal.{IsMinimal}
use Rattle.mcs_base.specs.Pairs.{removed_of, forced_of}
use Rattle.mcs_base.proofs.PairLemmas.{has-removed_of, has-forced_of, removed_of-none, forced_of-none}
use Rattle.mcs_system.specs.Plain.{System}
use Rattle.mcs_system.specs.Systems.{all_rules, applicable, acting_at, IsConsistent, IsProjectedEquilibrium}
use Rattle.mcs_system.specs.Repairs.{allowed_marks, choice_marks, IsChoice, IsDiagnosis, IsExplanation}
use Rattle.mcs_system.proofs.MarkLemmas.{has-marks_of, mark-even, mark-odd, by_parity, forced_known, allowed_known, removed-marks_of, forced-marks_of, applicable_within}
use Rattle.mcs_laws.proofs.Transversals.{meets_each}
use Rattle.mcs_laws.proofs.Projections.{parts_of, from_parts}
use Rattle.mcs_sets.proofs.Lattice.{minus-none, none_within, within_antisymmetric}

-- the rules that act in the system changed by the marks of a choice are those of the choice
acting-choice : (m : System) (σ x : ℕ) → Within x (all_rules m) → acting_at m σ (minus (all_rules m) (minus (applicable m σ) x)) (minus x (applicable m σ)) ≡ x
acting-choice m σ x within = same_set _ _ (λ k. rw (has-union, has-common, has-minus, has-minus, has-minus) (each k (has x k) refl (has (applicable m σ) k) refl))
  where
    each : (k : ℕ) (u : Bool) → has x k ≡ u → (v : Bool) → has (applicable m σ) k ≡ v → ((has (applicable m σ) k && (has (all_rules m) k && not (has (applicable m σ) k && not (has x k)))) || (has x k && not (has (applicable m σ) k))) ≡ has x k
    each k true e v e' = let known = within k e in grind (arith, nat_tests)
    each k false e true e' = let known = applicable_within m σ k e' in grind (arith, nat_tests)
    each k false e false e' = grind (arith, nat_tests)

pub choice_is_diagnosis : (m : System) (σ x : ℕ) → IsChoice m σ x → IsDiagnosis m (choice_marks m σ x)
choice_is_diagnosis m σ x c = record {
  allowed = c.allowed;
  equilibrium = σ;
  balanced = rw (removed-marks_of m (minus (applicable m σ) x) (minus x (applicable m σ)) removed, forced-marks_of m (minus (applicable m σ) x) (minus x (applicable m σ)) forced)
      (from_parts m _ _ σ c.of_variables (λ i less. rw (acting-choice m σ x c.of_rules) (c.accepted i less)));
}
  where
    removed : Within (minus (applicable m σ) x) (all_rules m)
    removed k is = let e = has-minus (applicable m σ) x k in let w = applicable_within m σ k in grind (arith, nat_tests)

    forced : Within (minus x (applicable m σ)) (all_rules m)
    forced k is = let e = has-minus x (applicable m σ) k in let w = c.of_rules k in grind (arith, nat_tests)

-- the marks of the rules that act in a state of a changed system lie within the pair
pub choice_within : (m : System) (pair σ : ℕ) → Within (choice_marks m σ (acting_at m σ (minus (all_rules m) (removed_of pair)) (forced_of pair))) pair
choice_within m pair σ k is = let (r, half) = by_parity k in elim half [ inl e ↦ ap (has pair) e ∙ even r (ap (has marks) (sym e) ∙ is) | inr e ↦ ap (has pair) e ∙ odd r (ap (has marks) (sym e) ∙ is) ]
  where
    a : ℕ
    a = applicable m σ

    x : ℕ
    x = acting_at m σ (minus (all_rules m) (removed_of pair)) (forced_of pair)

    marks : ℕ
    marks = choice_marks m σ x

    in_x : (r : ℕ) → has x r ≡ ((has a r && (has (all_rules m) r && not (has (removed_of pair) r))) || has (forced_of pair) r)
    in_x r = rw (has-union, has-common, has-minus) refl

    even : (r : ℕ) → has marks (2 * r) ≡ true → has pair (2 * r) ≡ true
    even r is = let e1 = has-marks_of m (minus a x) (minus x a) (2 * r) in let e2 = mark-even (minus a x) (minus x a) r in let e3 = has-minus a x r in let e4 = in_x r in
        let e5 = has-removed_of pair r in let w = applicable_within m σ r in grind (arith, nat_tests)

    odd : (r : ℕ) → has marks (2 * r + 1) ≡ true → has pair (2 * r + 1) ≡ true
    odd r is = let e1 = has-marks_of m (minus a x) (minus x a) (2 * r + 1) in let e2 = mark-odd (minus a x) (minus x a) r in let e3 = has-minus x a r in let e4 = in_x r in
        let e5 = has-forced_of pair r in grind (arith, nat_tests)

-- and these rules make a choice
pub state_is_choice : (m : System) (pair σ : ℕ) → Within pair (allowed_marks m) → IsProjectedEquilibrium m (minus (all_rules m) (removed_of pair)) (forced_of pair) σ
    → IsChoice m σ (acting_at m σ (minus (all_rules m) (removed_of pair)) (forced_of pair))
state_is_choice m pair σ allowed at = let h = parts_of m _ _ σ at in record { of_rules = known; of_variables = h.0; allowed = λ k is. allowed k (choice_within m pair σ k is); accepted = h.1 }
  where
    known : Within (acting_at m σ (minus (all_rules m) (removed_of pair)) (forced_of pair)) (all_rules m)
    known k is = let e1 = has-union (common (applicable m σ) (minus (all_rules m) (removed_of pair))) (forced_of pair) k in let e2 = has-common (applicable m σ) (minus (all_rules m) (removed_of pair)) k in
        let w = applicable_within m σ k in let f = forced_known m pair (allowed_known m pair allowed) k in grind (arith, nat_tests)

pub minimal_from_choice : (m : System) (pair σ : ℕ) → IsMinimal (IsDiagnosis m) pair → IsProjectedEquilibrium m (minus (all_rules m) (removed_of pair)) (forced_of pair) σ
    → choice_marks m σ (acting_at m σ (minus (all_rules m) (removed_of pair)) (forced_of pair)) ≡ pair
minimal_from_choice m pair σ minimal at = minimal.least _ (choice_is_diagnosis m σ _ (state_is_choice m pair σ minimal.one.allowed at)) (choice_within m pair σ)

-- ---- a consistent system
pub consistent_needs_nothing : (m : System) (σ : ℕ) → IsProjectedEquilibrium m (all_rules m) 0 σ → IsDiagnosis m 0
consistent_needs_nothing m σ at = record { allowed = none_within _; equilibrium = σ; balanced = rw (removed_of-none, forced_of-none, minus-none (all_rules m)) at }

pub consistent_where_nothing : (m : System) → IsDiagnosis m 0 → IsConsistent m
consistent_where_nothing m d =
    let unforced : IsProjectedEquilibrium m (minus (all_rules m) (removed_of 0)) 0 d.equilibrium = subst (λ (f : ℕ). IsProjectedEquilibrium m (minus (all_rules m) (removed_of 0)) f d.equilibrium) forced_of-none d.balanced in
    let whole : IsProjectedEquilibrium m (minus (all_rules m) 0) 0 d.equilibrium = subst (λ (r : ℕ). IsProjectedEquilibrium m (minus (all_rules m) r) 0 d.equilibrium) removed_of-none unforced in
    record { equilibrium = d.equilibrium; balanced = subst (λ (r : ℕ). IsProjectedEquilibrium m r 0 d.equilibrium) (minus-none (all_rules m)) whole }

pub consistent_minimal : (m : System) (σ : ℕ) → IsProjectedEquilibrium m (all_rules m) 0 σ → (pair : ℕ) → IsMinimal (IsDiagnosis m) pair ↔ (pair ≡ 0)
consistent_minimal m σ at pair = (
  λ h. sym (h.least 0 (consistent_needs_nothing m σ at) (none_within pair)),
  λ e. rw e (record { one = consistent_needs_nothing m σ at; least = λ t d within. within_antisymmetric t 0 within (none_within t) }),
)

pub consistent_unexplained : (m : System) (σ : ℕ) → IsProjectedEquilibrium m (all_rules m) 0 σ → (pair : ℕ) → ¬ IsExplanation m pair
consistent_unexplained m σ at pair e = let both = meets_each m pair 0 e (consistent_needs_nothing m σ at) in true≢false (sym both.in_second ∙ has-empty both.member)
