-- Explanations are what meets each diagnosis, and the minimal ones are the minimal transversals of the minimal diagnoses.
use Rattle.std.proofs.Common.{◌≡◌, ◌≢◌, ℕ, ◌+◌, ◌*◌, ◌<◌, Bool, true, false, not, ◌&&◌, eqb, zero, suc, List, length, refl, sym, ap, ◌∙◌, subst, inl, inr, ◌↔◌, arith, IsTrue, true≢false}
use Rattle.std.proofs.lemmas.Bool.Decides.{nat_tests}
use Rattle.mcs_sets.specs.Sets.{has, common, minus, Within, Meets}
use Rattle.mcs_sets.specs.Orders.{PairBefore}
use Rattle.mcs_sets.proofs.SetLemmas.{same_set, has-minus, has-common, meets_or_not, Within-le}
use Rattle.mcs_base.specs.Listings.{IsListing}
use Rattle.mcs_base.specs.Minimal.{IsMinimal}
use Rattle.mcs_base.specs.Pairs.{removed_of, forced_of}
use Rattle.mcs_base.specs.Transversals.{IsTransversalOf}
use Rattle.mcs_base.proofs.ListingLemmas.{all_among, all_from_among}
use Rattle.mcs_base.proofs.PairLemmas.{has-removed_of, has-forced_of}
use Rattle.mcs_system.specs.Plain.{System}
use Rattle.mcs_system.specs.Systems.{all_rules, IsProjectedEquilibrium}
use Rattle.mcs_system.specs.Repairs.{all_marks, marks_of, kept_rules, IsDiagnosis, IsChange, IsExplanation}
use Rattle.mcs_system.proofs.MarkLemmas.{has-marks_of, mark-even, mark-odd, by_parity, marks_small, removed_known, allowed_known, allowed_change, marks_allowed, removed-marks_of, forced-marks_of}
use Rattle.mcs_sets.proofs.Lattice.{in_minus, none_within, within_antisymmetric}
use Rattle.mcs_base.proofs.Ranges.{MeetsEach}

pub minus-minus : (m : System) (a : ℕ) → Within a (all_rules m) → minus (all_rules m) (minus (all_rules m) a) ≡ a
minus-minus m a within = same_set _ _ (λ r. rw (has-minus, has-minus) (each r (has a r) refl))
  where
    each : (r : ℕ) (v : Bool) → has a r ≡ v → (has (all_rules m) r && not (has (all_rules m) r && not (has a r))) ≡ has a r
    each r true e = let known = within r e in grind (arith, nat_tests)
    each r false e = grind (arith, nat_tests)

pub within_minus : (m : System) (a : ℕ) → Within (minus (all_rules m) a) (all_rules m)
within_minus m a r is = let e = has-minus (all_rules m) a r in grind (arith, nat_tests)

-- ---- an explanation meets each diagnosis
pub meets_each : (m : System) (p d : ℕ) → IsExplanation m p → IsDiagnosis m d → Meets p d
meets_each m p d e i = elim (meets_or_not p d (2 * length m.bridges) (marks_small m p e.of_rules)) [
  | inl meets ↦ meets
  | inr none ↦ absurd (e.none (minus (all_rules m) (removed_of d)) (forced_of d)
      (allowed_change m d i.allowed)
      (λ r is. kept none r is)
      (λ both. apart none both)
      i.equilibrium i.balanced)
]
  where
    kept : ((k : ℕ) → has p k ≡ true → has d k ≡ false) → (r : ℕ) → has (removed_of p) r ≡ true → has (minus (all_rules m) (removed_of d)) r ≡ true
    kept none r is = let e1 = has-removed_of d r in let known = removed_known m p e.of_rules r is in let e2 = has-minus (all_rules m) (removed_of d) r in
        let not_in_d = none (2 * r) (sym (has-removed_of p r) ∙ is) in grind (arith, nat_tests)

    apart : ((k : ℕ) → has p k ≡ true → has d k ≡ false) → Meets (forced_of d) (forced_of p) → ⊥
    apart none both = true≢false (sym both.in_first ∙ has-forced_of d both.member ∙ none (2 * both.member + 1) (sym (has-forced_of p both.member) ∙ both.in_second))

-- ---- and what meets each diagnosis is an explanation
pub explains : (m : System) (p : ℕ) → Within p (all_marks m) → MeetsEach (IsDiagnosis m) p → IsExplanation m p
explains m p of_rules meets = record { of_rules = of_rules; none = λ r1 r2 change w1 apart σ at. hit r1 r2 w1 apart (meets (marks_of m (minus (all_rules m) r1) r2) (diagnosis r1 r2 change σ at)) }
  where
    unkept : (r1 : ℕ) → Within (kept_rules m) r1 → ¬ Meets (minus (all_rules m) r1) (kept_rules m)
    unkept r1 kept meets = true≢false (sym (kept meets.member meets.in_second) ∙ (in_minus (all_rules m) r1 meets.member meets.in_first).1)

    diagnosis : (r1 r2 : ℕ) → IsChange m r1 r2 → (σ : ℕ) → IsProjectedEquilibrium m r1 r2 σ → IsDiagnosis m (marks_of m (minus (all_rules m) r1) r2)
    diagnosis r1 r2 change σ at = record {
      allowed = marks_allowed m (minus (all_rules m) r1) r2 (unkept r1 change.kept) change.none_closed;
      equilibrium = σ;
      balanced = rw (removed-marks_of m (minus (all_rules m) r1) r2 (within_minus m r1), forced-marks_of m (minus (all_rules m) r1) r2 change.forced_of_rules, minus-minus m r1 change.of_rules) at;
    }

    hit : (r1 r2 : ℕ) → Within (removed_of p) r1 → ¬ Meets r2 (forced_of p) → Meets p (marks_of m (minus (all_rules m) r1) r2) → ⊥
    hit r1 r2 w1 apart both = let (r, half) = by_parity both.member in elim half [
      | inl e ↦ even r (ap (has p) (sym e) ∙ both.in_first) (ap (has (marks_of m (minus (all_rules m) r1) r2)) (sym e) ∙ both.in_second)
      | inr e ↦ odd r (ap (has p) (sym e) ∙ both.in_first) (ap (has (marks_of m (minus (all_rules m) r1) r2)) (sym e) ∙ both.in_second)
    ]
      where
        even : (r : ℕ) → has p (2 * r) ≡ true → has (marks_of m (minus (all_rules m) r1) r2) (2 * r) ≡ true → ⊥
        even r in_p in_d =
            let e1 = has-marks_of m (minus (all_rules m) r1) r2 (2 * r) in let e2 = mark-even (minus (all_rules m) r1) r2 r in let e3 = has-minus (all_rules m) r1 r in
            let kept = w1 r (has-removed_of p r ∙ in_p) in grind (arith, nat_tests)

        odd : (r : ℕ) → has p (2 * r + 1) ≡ true → has (marks_of m (minus (all_rules m) r1) r2) (2 * r + 1) ≡ true → ⊥
        odd r in_p in_d =
            let e1 = has-marks_of m (minus (all_rules m) r1) r2 (2 * r + 1) in let e2 = mark-odd (minus (all_rules m) r1) r2 r in
            let in_r2 : has r2 r ≡ true = grind (arith, nat_tests) in apart (record { member = r; in_first = in_r2; in_second = has-forced_of p r ∙ in_p })

pub explanations : (m : System) (p : ℕ) → IsExplanation m p ↔ (Within p (all_marks m) × MeetsEach (IsDiagnosis m) p)
explanations m p = (λ e. (e.of_rules, λ d i. meets_each m p d e i), λ (within, meets). explains m p within meets)

-- ---- what meets each minimal diagnosis meets each
meets_smaller : (m : System) (t : ℕ) → MeetsEach (IsMinimal (IsDiagnosis m)) t → (f d : ℕ) → d < f → IsDiagnosis m d → ((k : ℕ) → has t k ≡ true → has d k ≡ false) → ⊥
meets_smaller m t meets zero d less i none = absurd (omega arith)
meets_smaller m t meets (suc f) d less i none = contradiction (meets d (record { one = i; least = λ e j within. same e j within (meets_smaller m t meets f e) (eqb e d) refl }))
  where
    contradiction : Meets t d → ⊥
    contradiction both = true≢false (sym both.in_second ∙ none both.member both.in_first)

    same : (e : ℕ) → IsDiagnosis m e → Within e d → (e < f → IsDiagnosis m e → ((k : ℕ) → has t k ≡ true → has e k ≡ false) → ⊥) → (v : Bool) → eqb e d ≡ v → e ≡ d
    same e j within smaller true is = grind (arith, nat_tests)
    same e j within smaller false is = let no_more = Within-le e d within in let differ : e ≢ d = grind (arith, nat_tests) in
        absurd (smaller (omega arith) j (λ k in_t. let w = within k in let n = none k in_t in outside k (has e k) refl w n))
      where
        outside : (k : ℕ) (v : Bool) → has e k ≡ v → (IsTrue (has e k) → IsTrue (has d k)) → has d k ≡ false → has e k ≡ false
        outside k true e w n = absurd (true≢false (sym (w e) ∙ n))
        outside k false e w n = e

minimal_ones_suffice : (m : System) (t : ℕ) → Within t (all_marks m) → MeetsEach (IsMinimal (IsDiagnosis m)) t → MeetsEach (IsDiagnosis m) t
minimal_ones_suffice m t within h d i = elim (meets_or_not t d (2 * length m.bridges) (marks_small m t within)) [
  | inl meets ↦ meets
  | inr none ↦ absurd (meets_smaller m t h (suc d) d (omega arith) i none)
]

-- ---- by a list
module _ (m : System) (ds : List ℕ) (listing : IsListing (IsMinimal (IsDiagnosis m)) PairBefore ds) where
  listed : (t : ℕ) → MeetsEach (IsMinimal (IsDiagnosis m)) t → IsTransversalOf ds t
  listed t meets = all_from_among (λ e. Meets t e) ds (λ e among. meets e ((listing.exactly e).0 among))

  each : (t : ℕ) → IsTransversalOf ds t → MeetsEach (IsMinimal (IsDiagnosis m)) t
  each t all e minimal = all_among (λ d. Meets t d) ds e all ((listing.exactly e).1 minimal)

  of_explanation : (t : ℕ) → IsExplanation m t → IsTransversalOf ds t
  of_explanation t e = listed t (λ d minimal. meets_each m t d e minimal.one)

  of_transversal : (t : ℕ) → Within t (all_marks m) → IsTransversalOf ds t → IsExplanation m t
  of_transversal t within all = explains m t within (minimal_ones_suffice m t within (each t all))

  -- the marks of rules in a transversal meet as much
  cut : (t : ℕ) → IsTransversalOf ds t → IsTransversalOf ds (common t (all_marks m))
  cut t all = listed (common t (all_marks m)) (λ d minimal. let both = each t all d minimal in
      let known = allowed_known m d minimal.one.allowed both.member both.in_second in
      record { member = both.member; in_first = has-common t (all_marks m) both.member ∙ rw (both.in_first, known) refl; in_second = both.in_second })

  cut_within : (t : ℕ) → Within (common t (all_marks m)) t
  cut_within t k is = let e = has-common t (all_marks m) k in grind (arith, nat_tests)

  minimal_known : (t : ℕ) → IsMinimal (IsTransversalOf ds) t → Within t (all_marks m)
  minimal_known t h = subst (λ s. Within s (all_marks m)) (h.least (common t (all_marks m)) (cut t h.one) (cut_within t)) (λ k is. let e = has-common t (all_marks m) k in grind (arith, nat_tests))

  pub minimal_explanations : (p : ℕ) → IsMinimal (IsExplanation m) p ↔ IsMinimal (IsTransversalOf ds) p
  minimal_explanations p = (
    λ h. record {
      one = of_explanation p h.one;
      least = λ t all within. h.least t (of_transversal t (λ k is. h.one.of_rules k (within k is)) all) within;
    },
    λ h. record {
      one = of_transversal p (minimal_known p h) h.one;
      least = λ t e within. h.least t (of_explanation t e) within;
    },
  )

-- ---- where nothing is a diagnosis
pub nothing_explains : (m : System) → ((e : ℕ) → ¬ IsDiagnosis m e) → (pair : ℕ) → IsMinimal (IsExplanation m) pair ↔ (pair ≡ 0)
nothing_explains m none pair = (
  λ h. sym (h.least 0 empty (none_within pair)),
  λ e. rw e (record { one = empty; least = λ t is within. within_antisymmetric t 0 within (none_within t) }),
)
  where
    empty : IsExplanation m 0
    empty = explains m 0 (none_within _) (λ d i. absurd (none d i))
