-- Worked costs, and worked systems with their cheapest diagnoses and stop levels.
use Rattle.std.proofs.Common.{◌≡◌, ℕ, ◌<◌, ◌≤◌, ◌+◌, ◌/◌, min, zero, suc, true, false, List, [], ◌∷◌, refl, sym, ap, ◌∙◌, subst, inl, inr, ◌↔◌, arith, true≢false, slice_get}
use Rattle.std.proofs.lemmas.Bool.{and_parts}
use Rattle.std.proofs.lemmas.Bool.Decides.{nat_tests}
use Rattle.mcs_sets.specs.Sets.{has, common, minus, members, members_from, single, such_that, union, Meets}
use Rattle.mcs_sets.proofs.SetLemmas.{has-common, has-empty, has-single, members_below, Within-le}
use Rattle.mcs_sets.proofs.Lattice.{in_common}
use Rattle.mcs_base.specs.Pairs.{removed_of, forced_of}
use Rattle.mcs_base.proofs.Ranges.{zero_or_one}
use Rattle.mcs_system.specs.Atoms.{atoms_of}
use Rattle.mcs_system.specs.Faults.{exceeds, fault_of, IsValid}
use Rattle.mcs_system.specs.Logic.{BeliefSet, Theory, Atoms, Believes, Entails, Accepts, SameModels, with_heads}
use Rattle.mcs_system.specs.Plain.{Formula, Truth, Context, Read, System}
use Rattle.mcs_system.specs.Repairs.{allowed_marks, IsDiagnosis}
use Rattle.mcs_system.specs.Rows.{inputs_of}
use Rattle.mcs_system.specs.Systems.{variables, variables_of, all_variables, all_rules, acting_at, applicable, heads_into, AcceptsWith, IsAcceptedPart, IsProjectedEquilibrium, IsVariable, IsConsistent}
use Rattle.mcs_laws.specs.Examples.{p, p_of_0, example_context, against_itself_where, self_support}
use Rattle.mcs_laws.proofs.Barred.{barred_is_unrepaired}
use Rattle.mcs_laws.proofs.Choices.{consistent_minimal, consistent_needs_nothing, consistent_where_nothing}
use Rattle.mcs_laws.proofs.Projections.{parts_of, from_parts}
use Rattle.mcs_laws.proofs.Tiny.{has-1, p_follows, p_is_open, self_support_has_two}
use Rattle.mcs_costs.specs.Costs.{cost, IsCheapest, IsLeastWeight, IsStopLevel}
use Rattle.mcs_costs.specs.Worked.{forced_beside, StopsAt, MarksCostTheirRules, BothMarksArePaid, ForcingIsCheapest, LightRulesDelay, BarredIsUnpaid, ConsistentIsFree}
use Rattle.mcs_costs.proofs.CheapestLemmas.{cheapest_minimal}
use Rattle.mcs_costs.proofs.CostLemmas.{cost-none, cost-single, cost-union_apart}
use Rattle.mcs_costs.proofs.StopLemmas.{stop_is_one, stop_is_quotient, stop_without}

-- ---- costs
pub marks_cost : MarksCostTheirRules
marks_cost weight other = (cost-single (forced_beside weight other) 1, cost-single (forced_beside weight other) 2)

-- removing and forcing are different marks
apart : ¬ Meets (single 0) (single 1)
apart meets = grind (arith, nat_tests, has-single 0 meets.member, has-single 1 meets.member, meets.in_first, meets.in_second)

pub both_are_paid : BothMarksArePaid
both_are_paid weight other =
    let m = forced_beside weight other in
    let first : cost m (single 0) ≡ weight = cost-single m 0 in
    let second : cost m (single 1) ≡ weight = cost-single m 1 in
    cost-union_apart m (single 0) (single 1) apart ∙ ap (λ n. n + cost m (single 1)) first ∙ ap (λ n. weight + n) second

-- ---- sets
single_is : single 1 ≡ 2
unfolding single
single_is = refl

no_0_in_2 : has 2 0 ≡ false
unfolding has
no_0_in_2 = refl

one_in_2 : has 2 1 ≡ true
unfolding has
one_in_2 = refl

zero_in_3 : has 3 0 ≡ true
unfolding has
zero_in_3 = refl

one_in_3 : has 3 1 ≡ true
unfolding has
one_in_3 = refl

-- ---- where the one rule may only be forced, and the other one always acts
module _ (weight other : ℕ) where
  abbrev beside : System
  beside = forced_beside weight other

  allowed-beside : allowed_marks beside ≡ 2
  unfolding allowed_marks such_that union single
  allowed-beside = refl

  all_variables-beside : all_variables beside ≡ 1
  unfolding variables such_that union single
  all_variables-beside = refl

  variables_of-beside : variables_of beside 0 ≡ 1
  unfolding variables_of variables such_that union single
  variables_of-beside = refl

  acting-beside-1 : acting_at beside 1 (all_rules beside) 0 ≡ 2
  unfolding applicable variables such_that union single common has
  acting-beside-1 = refl

  acting-beside-0 : acting_at beside 0 (all_rules beside) 0 ≡ 3
  unfolding applicable variables such_that union single common has
  acting-beside-0 = refl

  acting-forced : acting_at beside 1 3 1 ≡ 3
  unfolding applicable variables such_that union single common has
  acting-forced = refl

  left-forced : minus (all_rules beside) (removed_of 2) ≡ 3
  unfolding minus such_that union single removed_of has
  left-forced = refl

  one_forced : forced_of 2 ≡ 1
  unfolding such_that union single forced_of has
  one_forced = refl

  first_variable : IsVariable beside 0 p_of_0
  unfolding variables
  first_variable = refl

  only_variable : (v : ℕ) (r : Read) → IsVariable beside v r → (v ≡ 0) × (r ≡ p_of_0)
  unfolding variables
  only_variable zero r is = (refl, cc)
  only_variable (suc v) r is = cc

  heads-3 : heads_into beside 0 3 ≡ p ∷ Truth ∷ []
  heads-3 = rw (zero_in_3, one_in_3) refl

  heads-2 : heads_into beside 0 2 ≡ Truth ∷ []
  heads-2 = rw (no_0_in_2, one_in_2) refl

  accepted_theory : (x : ℕ) (b : BeliefSet) → AcceptsWith beside 0 x b → (e : List Formula) × (b ≡ Theory e) × SameModels e (heads_into beside 0 x)
  accepted_theory x (Theory e) (c, is, accepts) = let same : c ≡ example_context = cc in
      (e, refl, subst (λ (d : Context). Accepts (with_heads d.kb (heads_into beside 0 x)) (Theory e)) same accepts)
  accepted_theory x (Atoms names) (c, is, accepts) = let same : c ≡ example_context = cc in
      absurd (subst (λ (d : Context). Accepts (with_heads d.kb (heads_into beside 0 x)) (Atoms names)) same accepts)

  -- where the first rule acts p is believed, so it does not apply
  acts_and_may_not : IsAcceptedPart beside 0 3 (common 0 1) → ⊥
  acts_and_may_not a =
      let (e, is, same) = accepted_theory 3 a.belief a.accepted in
      let same' : SameModels e (p ∷ Truth ∷ []) = rw heads-3 at same in
      let follows : Entails e p = (λ a h. (and_parts _ _ (sym (same' a) ∙ h)).0) in
      let member = (a.part 0).1 (p_of_0, first_variable, refl, subst (λ (b : BeliefSet). Believes b p) (sym is) follows) in
      true≢false (sym (and_parts _ _ (sym (has-common 0 1 0) ∙ member)).0 ∙ has-empty 0)

  -- where it does not act p is not believed, so it applies
  rests_and_must_act : IsAcceptedPart beside 0 2 (common 1 1) → ⊥
  rests_and_must_act a =
      let (e, is, same) = accepted_theory 2 a.belief a.accepted in
      let same' : SameModels e (Truth ∷ []) = rw heads-2 at same in
      let (r, var, here, believes) = (a.part 0).0 (has-common 1 1 0 ∙ rw has-1 refl) in
      let believes' : Believes (Theory e) r.belief = subst (λ (b : BeliefSet). Believes b r.belief) is believes in
      let follows : Entails e p = subst (λ (q : Read). Entails e q.belief) (only_variable 0 r var).1 believes' in
      p_is_open (λ a h. follows a (same' a))

  has_none : (σ : ℕ) → ¬ IsProjectedEquilibrium beside (all_rules beside) 0 σ
  has_none σ at = elim (zero_or_one σ (rw all_variables-beside at (Within-le σ _ (parts_of beside _ 0 σ at).0))) [
    | inl e ↦ rests_and_must_act (rw (acting-beside-1, variables_of-beside) at (part 1 (subst (IsProjectedEquilibrium beside (all_rules beside) 0) e at)))
    | inr rest ↦ elim rest [
      | inl e ↦ acts_and_may_not (rw (acting-beside-0, variables_of-beside) at (part 0 (subst (IsProjectedEquilibrium beside (all_rules beside) 0) e at)))
      | inr rest' ↦ absurd rest'
    ]
  ]
    where
      part : (τ : ℕ) → IsProjectedEquilibrium beside (all_rules beside) 0 τ → IsAcceptedPart beside 0 (acting_at beside τ (all_rules beside) 0) (common τ (variables_of beside 0))
      part τ h = (parts_of beside _ 0 τ h).1 0 (omega arith)

  -- where it is forced p is believed
  acts : IsAcceptedPart beside 0 3 (common 1 1)
  acts = record { belief = Theory (p ∷ []); accepted = (example_context, refl, λ a. rw (zero_in_3, one_in_3) refl); part = λ v. (to v, λ h. from v h.0 h.1) }
    where
      to : (v : ℕ) → has (common 1 1) v ≡ true → (r : Read) × IsVariable beside v r × (r.context ≡ 0) × Entails (p ∷ []) r.belief
      to v member = let small : v < 1 = members_below 1 1 v (omega arith) (in_common 1 1 v member).0 in let is : v ≡ 0 = omega arith in
          (p_of_0, ap (slice_get (variables beside)) is ∙ first_variable, refl, p_follows)

      from : (v : ℕ) → (r : Read) → IsVariable beside v r → has (common 1 1) v ≡ true
      from v r is = let e = (only_variable v r is).0 in ap (has (common 1 1)) e ∙ has-common 1 1 0 ∙ rw has-1 refl

  acting : IsProjectedEquilibrium beside 3 1 1
  acting = from_parts beside 3 1 1 (λ k h. rw all_variables-beside h) part
    where
      part : (i : ℕ) → i < 1 → IsAcceptedPart beside i (acting_at beside 1 3 1) (common 1 (variables_of beside i))
      part zero less = rw (acting-forced, variables_of-beside) acts
      part (suc i) less = absurd (omega arith)

  inconsistent : ¬ IsConsistent beside
  inconsistent c = has_none c.equilibrium c.balanced

  forced : IsDiagnosis beside 2
  forced = record { allowed = rw allowed-beside (λ k h. h); equilibrium = 1; balanced = rw (left-forced, one_forced) acting }

  only_forced : (pair : ℕ) → IsDiagnosis beside pair → pair ≤ 2 → pair ≡ 2
  only_forced zero d small = absurd (inconsistent (consistent_where_nothing beside d))
  only_forced (suc zero) d small = absurd (true≢false (sym (d.allowed 0 has-1) ∙ ap (λ s. has s 0) allowed-beside ∙ no_0_in_2))
  only_forced (suc (suc zero)) d small = refl
  only_forced (suc (suc (suc n))) d small = absurd (omega arith)

  is_forced : (pair : ℕ) → IsDiagnosis beside pair → pair ≡ 2
  is_forced pair d = only_forced pair d (let small = Within-le pair _ d.allowed in rw allowed-beside at small)

  forced_costs : cost beside 2 ≡ weight
  forced_costs = ap (cost beside) (sym single_is) ∙ cost-single beside 1

  forced_cheapest : IsCheapest beside 2
  forced_cheapest = record { one = forced; least = λ other d. (let same = ap (cost beside) (is_forced other d) in omega (arith, same)) }

  only_cheapest : (pair : ℕ) → IsCheapest beside pair ↔ (pair ≡ single 1)
  only_cheapest pair = (λ cheapest. is_forced pair cheapest.one ∙ sym single_is, λ e. subst (IsCheapest beside) (sym (e ∙ single_is)) forced_cheapest)

  stops : (least : ℕ) → IsValid beside → IsLeastWeight beside least → StopsAt beside (min (weight / least) 2)
  stops least valid is level = subst (λ (c : ℕ). IsStopLevel beside level ↔ (level ≡ min (c / least) 2)) forced_costs (stop_is_quotient beside 2 least level valid forced_cheapest is)

valid_1_1 : IsValid (forced_beside 1 1)
unfolding fault_of exceeds variables inputs_of atoms_of such_that union single members members_from has
valid_1_1 = refl

valid_5_1 : IsValid (forced_beside 5 1)
unfolding fault_of exceeds variables inputs_of atoms_of such_that union single members members_from has
valid_5_1 = refl

valid_5_5 : IsValid (forced_beside 5 5)
unfolding fault_of exceeds variables inputs_of atoms_of such_that union single members members_from has
valid_5_5 = refl

le : (a b : ℕ) → a ≤ b → a ≤ b
le a b h = h

pub forcing_is_cheapest : ForcingIsCheapest
forcing_is_cheapest = (only_cheapest, stops 1 1 1 valid_1_1 (inl refl, (le 1 1 (omega arith), (le 1 1 (omega arith), tt))))

pub light_rules_delay : LightRulesDelay
light_rules_delay = (
  stops 5 1 1 valid_5_1 (inr (inl refl), (le 1 5 (omega arith), (le 1 1 (omega arith), tt))),
  stops 5 5 5 valid_5_5 (inl refl, (le 5 5 (omega arith), (le 5 5 (omega arith), tt))),
)

-- ---- where it may be neither removed nor forced
pub barred_is_unpaid : BarredIsUnpaid
barred_is_unpaid = (
  λ pair cheapest. barred_is_unrepaired.0 pair cheapest.one,
  λ level. stop_without (against_itself_where true true) level barred_is_unrepaired.0,
)

-- ---- a consistent system
consistent : IsConsistent self_support
consistent = record { equilibrium = 1; balanced = (self_support_has_two.exactly 1).0 (inl refl) }

valid : IsValid self_support
unfolding fault_of exceeds variables inputs_of atoms_of such_that union single members members_from has
valid = refl

free_cheapest : (pair : ℕ) → IsCheapest self_support pair ↔ (pair ≡ 0)
free_cheapest pair = (
  λ cheapest. (consistent_minimal self_support consistent.equilibrium consistent.balanced pair).0 (cheapest_minimal self_support pair valid cheapest),
  λ e. subst (IsCheapest self_support) (sym e) (record { one = consistent_needs_nothing self_support consistent.equilibrium consistent.balanced; least = λ other d. omega (arith, cost-none self_support) }),
)

stops_at_0 : IsStopLevel self_support 0
stops_at_0 = inl (consistent, refl)

pub consistent_is_free : ConsistentIsFree
consistent_is_free = (free_cheapest, λ level. (λ stop. stop_is_one self_support level 0 stop stops_at_0, λ e. subst (IsStopLevel self_support) (sym e) stops_at_0))
