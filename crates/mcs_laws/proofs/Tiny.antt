-- The two tiny systems, evaluated.
use Rattle.std.proofs.Common.{◌≡◌, ℕ, ◌<◌, zero, suc, Bool, true, false, List, [], ◌∷◌, refl, sym, ap, ◌∙◌, subst, inl, inr, arith, true≢false, slice_get}
use Rattle.std.proofs.lemmas.Bool.{and_parts}
use Rattle.mcs_sets.specs.Sets.{has, common, union, single, such_that}
use Rattle.mcs_sets.proofs.SetLemmas.{Within-le, has-empty, has-common, members_below}
use Rattle.mcs_sets.proofs.Lattice.{in_common}
use Rattle.mcs_system.specs.Plain.{Formula, Context, Read, System}
use Rattle.mcs_system.specs.Logic.{BeliefSet, Theory, Atoms, Believes, Entails, Accepts, SameModels, with_heads}
use Rattle.mcs_system.specs.Systems.{variables, variables_of, all_variables, all_rules, IsVariable, IsProjectedEquilibrium, heads_into, AcceptsWith, IsAcceptedPart, acting_at, applicable}
use Rattle.mcs_laws.specs.Laws.{SelfSupportHasTwo, AgainstItselfHasNone}
use Rattle.mcs_laws.specs.Examples.{p, p_of_0, example_context, self_support, against_itself_where}
use Rattle.mcs_laws.proofs.Projections.{parts_of, from_parts}
use Rattle.mcs_base.proofs.Ranges.{zero_or_one}

-- what the definitions compute to
variables-self : variables self_support ≡ p_of_0 ∷ []
unfolding variables
variables-self = refl

all_variables-self : all_variables self_support ≡ 1
unfolding variables such_that union single
all_variables-self = refl

all_rules-self : all_rules self_support ≡ 1
unfolding such_that union single
all_rules-self = refl

variables_of-self : variables_of self_support 0 ≡ 1
unfolding variables_of variables such_that union single
variables_of-self = refl

acting-self-1 : acting_at self_support 1 (all_rules self_support) 0 ≡ 1
unfolding applicable variables such_that union single common has
acting-self-1 = refl

acting-self-0 : acting_at self_support 0 (all_rules self_support) 0 ≡ 0
unfolding applicable variables such_that union single common has
acting-self-0 = refl

pub has-1 : has 1 0 ≡ true
unfolding has
has-1 = refl

-- p follows from p, and not from nothing
pub p_follows : Entails (p ∷ []) p
p_follows a h = (and_parts _ _ h).0

pub p_is_open : ¬ Entails [] p
p_is_open follows = true≢false (sym (follows [] refl))

only_variable : (v : ℕ) (r : Read) → IsVariable self_support v r → (v ≡ 0) × (r ≡ p_of_0)
unfolding variables
only_variable zero r is = (refl, cc)
only_variable (suc v) r is = cc

first_variable : IsVariable self_support 0 p_of_0
unfolding variables
first_variable = refl

full : IsProjectedEquilibrium self_support (all_rules self_support) 0 1
full = from_parts self_support _ 0 1 (λ k h. rw all_variables-self h) part
  where
    to : (v : ℕ) → has (common 1 1) v ≡ true → (r : Read) × IsVariable self_support v r × (r.context ≡ 0) × Entails (p ∷ []) r.belief
    to v member = let small : v < 1 = members_below 1 1 v (omega arith) (and_parts _ _ (sym (has-common 1 1 v) ∙ member)).0 in let is : v ≡ 0 = omega arith in
        (p_of_0, ap (slice_get (variables self_support)) is ∙ first_variable, refl, p_follows)

    from : (v : ℕ) → (r : Read) → IsVariable self_support v r → has (common 1 1) v ≡ true
    from v r is = let e = (only_variable v r is).0 in ap (has (common 1 1)) e ∙ has-common 1 1 0 ∙ rw has-1 refl

    at_0 : IsAcceptedPart self_support 0 1 (common 1 1)
    at_0 = record {
      belief = Theory (p ∷ []);
      accepted = (example_context, refl, λ a. rw has-1 refl);
      part = λ v. (to v, λ h. from v h.0 h.1);
    }

    part : (i : ℕ) → i < 1 → IsAcceptedPart self_support i (acting_at self_support 1 (all_rules self_support) 0) (common 1 (variables_of self_support i))
    part zero less = rw (acting-self-1, variables_of-self) at_0
    part (suc i) less = absurd (omega arith)

none : IsProjectedEquilibrium self_support (all_rules self_support) 0 0
none = from_parts self_support _ 0 0 (λ k h. absurd (true≢false (sym h ∙ has-empty k))) part
  where
    to : (v : ℕ) → has (common 0 1) v ≡ true → (r : Read) × IsVariable self_support v r × (r.context ≡ 0) × Entails [] r.belief
    to v member = absurd (true≢false (sym (and_parts _ _ (sym (has-common 0 1 v) ∙ member)).0 ∙ has-empty v))

    from : (v : ℕ) → (r : Read) → IsVariable self_support v r → Entails [] r.belief → has (common 0 1) v ≡ true
    from v r is follows = absurd (p_is_open (subst (λ (q : Read). Entails [] q.belief) (only_variable v r is).1 follows))

    at_0 : IsAcceptedPart self_support 0 0 (common 0 1)
    at_0 = record {
      belief = Theory [];
      accepted = (example_context, refl, λ a. rw (has-empty 0) refl);
      part = λ v. (to v, λ h. from v h.0 h.1 h.3);
    }

    part : (i : ℕ) → i < 1 → IsAcceptedPart self_support i (acting_at self_support 0 (all_rules self_support) 0) (common 0 (variables_of self_support i))
    part zero less = rw (acting-self-0, variables_of-self) at_0
    part (suc i) less = absurd (omega arith)

pub self_support_has_two : SelfSupportHasTwo
self_support_has_two = record {
  exactly = λ σ. (
    λ among. elim among [ inl e ↦ rw e full | inr rest ↦ elim rest [ inl e ↦ rw e none | inr rest' ↦ absurd rest' ] ],
    λ at. zero_or_one σ (rw all_variables-self at (Within-le σ _ (parts_of self_support _ 0 σ at).0)),
  );
  ascending = ((record { at = 0; in_first = has-1; not_in_second = has-empty 0; same_below = λ j less. absurd (omega arith) }, tt), (tt, tt));
}

-- ---- the rule against its own context, kept and closed or not
module _ (keep closed : Bool) where
  abbrev against : System
  against = against_itself_where keep closed

  pub all_variables-against : all_variables against ≡ 1
  unfolding variables such_that union single
  all_variables-against = refl

  pub variables_of-against : variables_of against 0 ≡ 1
  unfolding variables_of variables such_that union single
  variables_of-against = refl

  acting-against-1 : acting_at against 1 (all_rules against) 0 ≡ 0
  unfolding applicable variables such_that union single common has
  acting-against-1 = refl

  acting-against-0 : acting_at against 0 (all_rules against) 0 ≡ 1
  unfolding applicable variables such_that union single common has
  acting-against-0 = refl

  pub first_against : IsVariable against 0 p_of_0
  unfolding variables
  first_against = refl

  pub only_against : (v : ℕ) (r : Read) → IsVariable against v r → (v ≡ 0) × (r ≡ p_of_0)
  unfolding variables
  only_against zero r is = (refl, cc)
  only_against (suc v) r is = cc

  accepted_theory : (x : ℕ) (b : BeliefSet) → AcceptsWith against 0 x b → (e : List Formula) × (b ≡ Theory e) × SameModels e (heads_into against 0 x)
  accepted_theory x (Theory e) (c, is, accepts) = let same : c ≡ example_context = cc in
      (e, refl, subst (λ (d : Context). Accepts (with_heads d.kb (heads_into against 0 x)) (Theory e)) same accepts)
  accepted_theory x (Atoms names) (c, is, accepts) = let same : c ≡ example_context = cc in
      absurd (subst (λ (d : Context). Accepts (with_heads d.kb (heads_into against 0 x)) (Atoms names)) same accepts)

  heads-1 : heads_into against 0 1 ≡ p ∷ []
  heads-1 = rw has-1 refl

  heads-0 : heads_into against 0 0 ≡ []
  heads-0 = rw (has-empty 0) refl

  -- where the rule acts p is believed, so it does not apply
  pub acts_and_may_not : IsAcceptedPart against 0 1 (common 0 1) → ⊥
  acts_and_may_not a =
      let (e, is, same) = accepted_theory 1 a.belief a.accepted in
      let same' : SameModels e (p ∷ []) = rw heads-1 at same in
      let follows : Entails e p = (λ a h. p_follows a (sym (same' a) ∙ h)) in
      let member = (a.part 0).1 (p_of_0, first_against, refl, subst (λ (b : BeliefSet). Believes b p) (sym is) follows) in
      true≢false (sym (and_parts _ _ (sym (has-common 0 1 0) ∙ member)).0 ∙ has-empty 0)

  -- where it does not act p is not believed, so it applies
  pub rests_and_must_act : IsAcceptedPart against 0 0 (common 1 1) → ⊥
  rests_and_must_act a =
      let (e, is, same) = accepted_theory 0 a.belief a.accepted in
      let same' : SameModels e [] = rw heads-0 at same in
      let (r, var, here, believes) = (a.part 0).0 (has-common 1 1 0 ∙ rw has-1 refl) in
      let believes' : Believes (Theory e) r.belief = subst (λ (b : BeliefSet). Believes b r.belief) is believes in
      let follows : Entails e p = subst (λ (q : Read). Entails e q.belief) (only_against 0 r var).1 believes' in
      p_is_open (λ a h. follows a (same' a ∙ h))

  -- where the rule rests p is not believed
  pub rests : IsAcceptedPart against 0 0 (common 0 1)
  rests = record { belief = Theory []; accepted = (example_context, refl, λ a. rw (has-empty 0) refl); part = λ v. (to v, λ h. from v h.0 h.1 h.3) }
    where
      to : (v : ℕ) → has (common 0 1) v ≡ true → (r : Read) × IsVariable against v r × (r.context ≡ 0) × Entails [] r.belief
      to v member = absurd (true≢false (sym (in_common 0 1 v member).0 ∙ has-empty v))

      from : (v : ℕ) → (r : Read) → IsVariable against v r → Entails [] r.belief → has (common 0 1) v ≡ true
      from v r is follows = absurd (p_is_open (subst (λ (q : Read). Entails [] q.belief) (only_against v r is).1 follows))

  -- and where it acts p is
  pub acts : IsAcceptedPart against 0 1 (common 1 1)
  acts = record { belief = Theory (p ∷ []); accepted = (example_context, refl, λ a. rw has-1 refl); part = λ v. (to v, λ h. from v h.0 h.1) }
    where
      to : (v : ℕ) → has (common 1 1) v ≡ true → (r : Read) × IsVariable against v r × (r.context ≡ 0) × Entails (p ∷ []) r.belief
      to v member = let small : v < 1 = members_below 1 1 v (omega arith) (in_common 1 1 v member).0 in let is : v ≡ 0 = omega arith in
          (p_of_0, ap (slice_get (variables against)) is ∙ first_against, refl, p_follows)

      from : (v : ℕ) → (r : Read) → IsVariable against v r → has (common 1 1) v ≡ true
      from v r is = let e = (only_against v r is).0 in ap (has (common 1 1)) e ∙ has-common 1 1 0 ∙ rw has-1 refl

  pub has_none : (σ : ℕ) → ¬ IsProjectedEquilibrium against (all_rules against) 0 σ
  has_none σ at = elim (zero_or_one σ (rw all_variables-against at (Within-le σ _ (parts_of against _ 0 σ at).0))) [
    | inl e ↦ rests_and_must_act (rw (acting-against-1, variables_of-against) at (part 1 (subst (IsProjectedEquilibrium against (all_rules against) 0) e at)))
    | inr rest ↦ elim rest [
      | inl e ↦ acts_and_may_not (rw (acting-against-0, variables_of-against) at (part 0 (subst (IsProjectedEquilibrium against (all_rules against) 0) e at)))
      | inr rest' ↦ absurd rest'
    ]
  ]
    where
      part : (τ : ℕ) → IsProjectedEquilibrium against (all_rules against) 0 τ → IsAcceptedPart against 0 (acting_at against τ (all_rules against) 0) (common τ (variables_of against 0))
      part τ h = (parts_of against _ 0 τ h).1 0 (omega arith)

pub against_itself_has_none : AgainstItselfHasNone
against_itself_has_none = has_none false false
