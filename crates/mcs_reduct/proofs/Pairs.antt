-- Two contexts whose formulas are none, with a rule into each: mutual support and mutual attack, evaluated.
use Rattle.std.proofs.Common.{◌≡◌, ℕ, zero, suc, Bool, true, false, cond, not, List, [], ◌∷◌, length, codes, Some, ◌⊎◌, inl, inr, ◌↔◌, arith, refl, sym, ap, ◌∙◌, subst, true≢false, slice_get, IsTrue}
use Rattle.std.proofs.lemmas.Bool.{and_parts, and_from, false_from_ne_true, le-ltb}
use Rattle.std.proofs.lemmas.Option.{same_Some}
use Rattle.std.specs.List.{AllByRecursion}
use Rattle.mcs_sets.specs.Sets.{has, single, union, such_that, Within}
use Rattle.mcs_sets.proofs.SetLemmas.{same_set, has-empty, has-single}
use Rattle.mcs_sets.proofs.Lattice.{none_from_no_member}
use Rattle.mcs_base.proofs.Lists.{slice_get_below}
use Rattle.mcs_system.specs.Plain.{Name, Formula, Classical, Context, Read, Bridge, System, plain_rule}
use Rattle.mcs_system.specs.Logic.{holds_all, BeliefSet, Theory, Atoms, Believes, Entails, Accepts, SameModels, with_heads}
use Rattle.mcs_system.specs.Systems.{variables, all_rules, heads_into, AcceptsWith, Applies, BelievesIn, IsEquilibrium, IsProjection, IsProjectedEquilibrium, IsVariable}
use Rattle.mcs_system.proofs.MarkLemmas.{has-all_rules}
use Rattle.mcs_laws.specs.Examples.{p, p_of_0}
use Rattle.mcs_reduct.specs.Examples.{p_of_1, context_a, context_b, mutual_support, mutual_attack}
use Rattle.mcs_reduct.specs.Grounded.{LiesWithin, IsWithin, IsGroundedState}
use Rattle.mcs_reduct.specs.Laws.{MutualSupportIsNotGrounded, MutualAttackIsGrounded}
use Rattle.mcs_reduct.specs.Reducts.{reduced_system, IsReductEquilibrium}
use Rattle.mcs_reduct.proofs.Beliefs.{decided_in, are_unblocked, unblocked_rules}
use Rattle.mcs_reduct.proofs.Reduced.{reduct_accepts, reduced_long, rule_known, no_rule, no_other, equilibrium_of_reduct, reduct_of_equilibrium}

-- ---- one context without formulas
p_follows : Entails (p ∷ []) p
p_follows a h = (and_parts _ _ h).0

p_is_open : ¬ Entails [] p
p_is_open follows = true≢false (sym (follows [] refl))

believes_head : (e : List Formula) → SameModels e (p ∷ []) → Entails e p
believes_head e same a h = p_follows a (sym (same a) ∙ h)

believes_nothing : (e : List Formula) → SameModels e [] → ¬ Entails e p
believes_nothing e same follows = true≢false (sym (follows [] (same [])))

-- what follows from what follows from nothing follows from nothing
all_hold : (a : List Name) (e : List Formula) → AllByRecursion (Entails []) e → holds_all a e ≡ true
all_hold a [] all = refl
all_hold a (f ∷ fs) all = and_from _ _ (all.0 a refl) (all_hold a fs all.1)

believes_p : (u : Bool) (b : BeliefSet) → Accepts (with_heads (Classical []) (cond u (p ∷ []) [])) b → Believes b p ↔ (u ≡ true)
believes_p true (Theory e) same = (λ h. refl, λ is. believes_head e same)
believes_p true (Atoms a) same = absurd same
believes_p false (Theory e) same = (λ h. absurd (believes_nothing e same h), λ is. absurd (true≢false (sym is)))
believes_p false (Atoms a) same = absurd same

-- ---- the two contexts
module _ (pos_r neg_r pos_s neg_s : List Read) where
  abbrev rule_r : Bridge
  rule_r = plain_rule (codes "r") 0 p pos_r neg_r

  abbrev rule_s : Bridge
  rule_s = plain_rule (codes "s") 1 p pos_s neg_s

  abbrev pair : System
  pair = record { contexts = context_a ∷ context_b ∷ []; bridges = rule_r ∷ rule_s ∷ [] }

  heads_a : (x : ℕ) (u v : Bool) → has x 0 ≡ u → has x 1 ≡ v → heads_into pair 0 x ≡ cond u (p ∷ []) []
  heads_a x true true e e' = rw (e, e') refl
  heads_a x true false e e' = rw (e, e') refl
  heads_a x false true e e' = rw (e, e') refl
  heads_a x false false e e' = rw (e, e') refl

  heads_b : (x : ℕ) (u v : Bool) → has x 0 ≡ u → has x 1 ≡ v → heads_into pair 1 x ≡ cond v (p ∷ []) []
  heads_b x true true e e' = rw (e, e') refl
  heads_b x true false e e' = rw (e, e') refl
  heads_b x false true e e' = rw (e, e') refl
  heads_b x false false e e' = rw (e, e') refl

  accepted_a : (x : ℕ) (b : BeliefSet) → AcceptsWith pair 0 x b → Accepts (with_heads (Classical []) (cond (has x 0) (p ∷ []) [])) b
  accepted_a x b (c, is, accepts) = subst (λ (hs : List Formula). Accepts (with_heads (Classical []) hs) b) (heads_a x (has x 0) (has x 1) refl refl)
      (subst (λ (d : Context). Accepts (with_heads d.kb (heads_into pair 0 x)) b) (sym (same_Some context_a c is)) accepts)

  accepted_b : (x : ℕ) (b : BeliefSet) → AcceptsWith pair 1 x b → Accepts (with_heads (Classical []) (cond (has x 1) (p ∷ []) [])) b
  accepted_b x b (c, is, accepts) = subst (λ (hs : List Formula). Accepts (with_heads (Classical []) hs) b) (heads_b x (has x 0) (has x 1) refl refl)
      (subst (λ (d : Context). Accepts (with_heads d.kb (heads_into pair 1 x)) b) (sym (same_Some context_b c is)) accepts)

  accepts_a : (x : ℕ) (e : List Formula) → SameModels e (cond (has x 0) (p ∷ []) []) → AcceptsWith pair 0 x (Theory e)
  accepts_a x e same = (context_a, refl, subst (λ (hs : List Formula). SameModels e hs) (sym (heads_a x (has x 0) (has x 1) refl refl)) same)

  accepts_b : (x : ℕ) (e : List Formula) → SameModels e (cond (has x 1) (p ∷ []) []) → AcceptsWith pair 1 x (Theory e)
  accepts_b x e same = (context_b, refl, subst (λ (hs : List Formula). SameModels e hs) (sym (heads_b x (has x 0) (has x 1) refl refl)) same)

  -- p is believed exactly where the rule into the context acts
  module _ (s : List BeliefSet) (e : IsEquilibrium pair (all_rules pair) 0 s) where
    believed_a : BelievesIn s p_of_0 ↔ (has e.acting 0 ≡ true)
    believed_a = (
      λ (b, own, h). (believes_p (has e.acting 0) b (accepted_a e.acting b (e.accepted 0 b own))).0 h,
      λ acts. (let (b, own) = slice_get_below s 0 (let long = e.one_each in omega (arith, long)) in (b, own, (believes_p (has e.acting 0) b (accepted_a e.acting b (e.accepted 0 b own))).1 acts)),
    )

    believed_b : BelievesIn s p_of_1 ↔ (has e.acting 1 ≡ true)
    believed_b = (
      λ (b, own, h). (believes_p (has e.acting 1) b (accepted_b e.acting b (e.accepted 1 b own))).0 h,
      λ acts. (let (b, own) = slice_get_below s 1 (let long = e.one_each in omega (arith, long)) in (b, own, (believes_p (has e.acting 1) b (accepted_b e.acting b (e.accepted 1 b own))).1 acts)),
    )

    -- which acts where it applies
    applies_r : (has e.acting 0 ≡ true) ↔ Applies rule_r s
    applies_r = (
      λ acts. elim ((e.acting_is 0 rule_r refl).0 acts) [ inl both ↦ both.1 | inr none ↦ no_rule (Applies rule_r s) 0 none ],
      λ applies. (e.acting_is 0 rule_r refl).1 (inl (rule_known pair 0 rule_r refl, applies)),
    )

    applies_s : (has e.acting 1 ≡ true) ↔ Applies rule_s s
    applies_s = (
      λ acts. elim ((e.acting_is 1 rule_s refl).0 acts) [ inl both ↦ both.1 | inr none ↦ no_rule (Applies rule_s s) 1 none ],
      λ applies. (e.acting_is 1 rule_s refl).1 (inl (rule_known pair 1 rule_s refl, applies)),
    )

  -- a state whose two theories are those of the heads of the rules that apply in it
  pub made_equilibrium : (x : ℕ) (e f : List Formula) → Within x (all_rules pair) → (has x 0 ≡ true) ↔ Applies rule_r (Theory e ∷ Theory f ∷ []) → (has x 1 ≡ true) ↔ Applies rule_s (Theory e ∷ Theory f ∷ [])
      → SameModels e (cond (has x 0) (p ∷ []) []) → SameModels f (cond (has x 1) (p ∷ []) []) → IsEquilibrium pair (all_rules pair) 0 (Theory e ∷ Theory f ∷ [])
  made_equilibrium x e f within of_r of_s same_e same_f = record { one_each = refl; acting = x; of_rules = within; acting_is = acting; accepted = accepted }
    where
      both : (k : ℕ) (b : Bridge) → (has (all_rules pair) k ≡ true) → (has x k ≡ true) ↔ Applies b (Theory e ∷ Theory f ∷ []) → (has x k ≡ true) ↔ ((IsTrue (has (all_rules pair) k) × Applies b (Theory e ∷ Theory f ∷ [])) ⊎ IsTrue (has 0 k))
      both k b known same = (λ h. inl (known, same.0 h), λ h. elim h [ inl one ↦ same.1 one.1 | inr none ↦ no_rule (has x k ≡ true) k none ])

      acting : (k : ℕ) (b : Bridge) → slice_get pair.bridges k ≡ Some b → (has x k ≡ true) ↔ ((IsTrue (has (all_rules pair) k) × Applies b (Theory e ∷ Theory f ∷ [])) ⊎ IsTrue (has 0 k))
      acting zero b is = subst (λ (d : Bridge). (has x 0 ≡ true) ↔ ((IsTrue (has (all_rules pair) 0) × Applies d (Theory e ∷ Theory f ∷ [])) ⊎ IsTrue (has 0 0))) (same_Some rule_r b is) (both 0 rule_r (rule_known pair 0 rule_r refl) of_r)
      acting (suc zero) b is = subst (λ (d : Bridge). (has x 1 ≡ true) ↔ ((IsTrue (has (all_rules pair) 1) × Applies d (Theory e ∷ Theory f ∷ [])) ⊎ IsTrue (has 0 1))) (same_Some rule_s b is) (both 1 rule_s (rule_known pair 1 rule_s refl) of_s)
      acting (suc (suc k)) b is = absurd (cc)

      accepted : (i : ℕ) (b : BeliefSet) → slice_get (Theory e ∷ Theory f ∷ []) i ≡ Some b → AcceptsWith pair i x b
      accepted zero b is = subst (AcceptsWith pair 0 x) (same_Some (Theory e) b is) (accepts_a x e same_e)
      accepted (suc zero) b is = subst (AcceptsWith pair 1 x) (same_Some (Theory f) b is) (accepts_b x f same_f)
      accepted (suc (suc i)) b is = absurd (cc)

  -- in each equilibrium of a reduct p is believed where the rule acts
  module _ (s t : List BeliefSet) (long : length s ≡ 2) (e : IsReductEquilibrium pair s t) where
    reduct_a : (b : BeliefSet) → slice_get t 0 ≡ Some b → Accepts (with_heads (Classical []) (cond (has e.balanced.acting 0) (p ∷ []) [])) b
    reduct_a b own = let (d, there) = slice_get_below s 0 (omega (arith, long)) in
        subst (λ (hs : List Formula). Accepts (with_heads (Classical []) hs) b) (heads_a e.balanced.acting (has e.balanced.acting 0) (has e.balanced.acting 1) refl refl)
        ((reduct_accepts pair s 0 e.balanced.acting context_a d b refl there).0 (e.balanced.accepted 0 b own))

    reduct_b : (b : BeliefSet) → slice_get t 1 ≡ Some b → Accepts (with_heads (Classical []) (cond (has e.balanced.acting 1) (p ∷ []) [])) b
    reduct_b b own = let (d, there) = slice_get_below s 1 (omega (arith, long)) in
        subst (λ (hs : List Formula). Accepts (with_heads (Classical []) hs) b) (heads_b e.balanced.acting (has e.balanced.acting 0) (has e.balanced.acting 1) refl refl)
        ((reduct_accepts pair s 1 e.balanced.acting context_b d b refl there).0 (e.balanced.accepted 1 b own))

  -- ---- variables
  module _ (vars : variables pair ≡ p_of_0 ∷ p_of_1 ∷ []) where
    two_variables : (v : ℕ) (r : Read) → IsVariable pair v r → ((v ≡ 0) × (r ≡ p_of_0)) ⊎ ((v ≡ 1) × (r ≡ p_of_1))
    two_variables v r var = at v (ap (λ (vs : List Read). slice_get vs v) (sym vars) ∙ var)
      where
        at : (v : ℕ) → slice_get (p_of_0 ∷ p_of_1 ∷ []) v ≡ Some r → ((v ≡ 0) × (r ≡ p_of_0)) ⊎ ((v ≡ 1) × (r ≡ p_of_1))
        at zero is = inl (refl, sym (same_Some p_of_0 r is))
        at (suc zero) is = inr (refl, sym (same_Some p_of_1 r is))
        at (suc (suc v)) is = absurd (cc)

    variable_0 : IsVariable pair 0 p_of_0
    variable_0 = ap (λ (vs : List Read). slice_get vs 0) vars

    variable_1 : IsVariable pair 1 p_of_1
    variable_1 = ap (λ (vs : List Read). slice_get vs 1) vars

    -- a projection is told by the two beliefs
    module _ (s : List BeliefSet) (σ : ℕ) (projection : IsProjection pair s σ) where
      in_0 : (has σ 0 ≡ true) ↔ BelievesIn s p_of_0
      in_0 = (
        λ h. (let (r, var, believed) = (projection 0).0 h in subst (BelievesIn s) (same_Some r p_of_0 (sym var ∙ variable_0)) believed),
        λ believed. (projection 0).1 (p_of_0, variable_0, believed),
      )

      in_1 : (has σ 1 ≡ true) ↔ BelievesIn s p_of_1
      in_1 = (
        λ h. (let (r, var, believed) = (projection 1).0 h in subst (BelievesIn s) (same_Some r p_of_1 (sym var ∙ variable_1)) believed),
        λ believed. (projection 1).1 (p_of_1, variable_1, believed),
      )

      beyond : (k : ℕ) → has σ (suc (suc k)) ≡ true → ⊥
      beyond k h = let (r, var, believed) = (projection (suc (suc k))).0 h in elim (two_variables (suc (suc k)) r var) [ inl both ↦ (let e = both.0 in cc) | inr both ↦ (let e = both.0 in cc) ]

      pub none_where : ¬ BelievesIn s p_of_0 → ¬ BelievesIn s p_of_1 → σ ≡ 0
      none_where no_0 no_1 = none_from_no_member σ (λ k. false_from_ne_true (has σ k) (at k))
        where
          at : (k : ℕ) → has σ k ≡ true → ⊥
          at zero h = no_0 (in_0.0 h)
          at (suc zero) h = no_1 (in_1.0 h)
          at (suc (suc k)) h = beyond k h

      -- one of the two alone
      pub first_alone : BelievesIn s p_of_0 → ¬ BelievesIn s p_of_1 → σ ≡ single 0
      first_alone is_first not_second = same_set σ (single 0) (λ k. at k)
        where
          at : (k : ℕ) → has σ k ≡ has (single 0) k
          at zero = in_0.1 is_first ∙ sym (has-single 0 0)
          at (suc zero) = false_from_ne_true (has σ 1) (λ h. not_second (in_1.0 h)) ∙ sym (has-single 0 1)
          at (suc (suc k)) = false_from_ne_true (has σ (suc (suc k))) (beyond k) ∙ sym (no_other 0 (suc (suc k)) (λ e. omega (arith, e)))

      pub second_alone : ¬ BelievesIn s p_of_0 → BelievesIn s p_of_1 → σ ≡ single 1
      second_alone not_first is_second = same_set σ (single 1) (λ k. at k)
        where
          at : (k : ℕ) → has σ k ≡ has (single 1) k
          at zero = false_from_ne_true (has σ 0) (λ h. not_first (in_0.0 h)) ∙ sym (has-single 1 0)
          at (suc zero) = in_1.1 is_second ∙ sym (has-single 1 1)
          at (suc (suc k)) = false_from_ne_true (has σ (suc (suc k))) (beyond k) ∙ sym (no_other 1 (suc (suc k)) (λ e. omega (arith, e)))

    -- a set is the projection of a state where it has just the variables that are believed
    pub made_projection : (s : List BeliefSet) (σ : ℕ) → (has σ 0 ≡ true) ↔ BelievesIn s p_of_0 → (has σ 1 ≡ true) ↔ BelievesIn s p_of_1 → ((k : ℕ) → has σ (suc (suc k)) ≡ false) → IsProjection pair s σ
    made_projection s σ zeroth first none v = (
      to v,
      λ (r, var, believed). elim (two_variables v r var) [
        | inl both ↦ ap (has σ) both.0 ∙ zeroth.1 (subst (BelievesIn s) both.1 believed)
        | inr both ↦ ap (has σ) both.0 ∙ first.1 (subst (BelievesIn s) both.1 believed)
      ],
    )
      where
        to : (v : ℕ) → has σ v ≡ true → (r : Read) × IsVariable pair v r × BelievesIn s r
        to zero h = (p_of_0, variable_0, zeroth.0 h)
        to (suc zero) h = (p_of_1, variable_1, first.0 h)
        to (suc (suc k)) h = absurd (true≢false (sym h ∙ none k))

-- ---- what is believed in two theories
first_believed : (e f : List Formula) → BelievesIn (Theory e ∷ Theory f ∷ []) p_of_0 ↔ Entails e p
first_believed e f = (λ (b, own, h). subst (λ (x : BeliefSet). Believes x p) (sym (same_Some (Theory e) b own)) h, λ h. (Theory e, refl, h))

second_believed : (e f : List Formula) → BelievesIn (Theory e ∷ Theory f ∷ []) p_of_1 ↔ Entails f p
second_believed e f = (λ (b, own, h). subst (λ (x : BeliefSet). Believes x p) (sym (same_Some (Theory f) b own)) h, λ h. (Theory f, refl, h))

-- ---- mutual support
variables_of_support : variables mutual_support ≡ p_of_0 ∷ p_of_1 ∷ []
unfolding variables
variables_of_support = refl

variables_of_attack : variables mutual_attack ≡ p_of_0 ∷ p_of_1 ∷ []
unfolding variables
variables_of_attack = refl

has_3_0 : has 3 0 ≡ true
unfolding has
has_3_0 = refl

has_3_1 : has 3 1 ≡ true
unfolding has
has_3_1 = refl

all_of_support : all_rules mutual_support ≡ 3
unfolding such_that union single
all_of_support = refl

all_of_attack : all_rules mutual_attack ≡ 3
unfolding such_that union single
all_of_attack = refl

three_is : (k : ℕ) → has 3 (suc (suc k)) ≡ false
three_is k = ap (λ (x : ℕ). has x (suc (suc k))) (sym all_of_support) ∙ has-all_rules mutual_support (suc (suc k)) ∙ le-ltb (suc (suc k)) 2 (omega arith)

-- with no belief neither rule applies
rests : (s : List BeliefSet) → length s ≡ 2 → IsReductEquilibrium mutual_support s (Theory [] ∷ Theory [] ∷ [])
rests s long = record {
  rules = all_rules mutual_support;
  unblocked = record { of_rules = λ k h. h; exactly = λ k b is. (λ h. no_negative k b is, λ h. rule_known mutual_support k b is) };
  balanced = record { one_each = sym (reduced_long mutual_support.contexts s); acting = 0; of_rules = λ k h. no_rule _ k h; acting_is = acting; accepted = accepted };
}
  where
    no_negative : (k : ℕ) (b : Bridge) → slice_get mutual_support.bridges k ≡ Some b → AllByRecursion (λ r. ¬ BelievesIn s r) b.neg
    no_negative zero b is = subst (λ (d : Bridge). AllByRecursion (λ r. ¬ BelievesIn s r) d.neg) (same_Some _ b is) tt
    no_negative (suc zero) b is = subst (λ (d : Bridge). AllByRecursion (λ r. ¬ BelievesIn s r) d.neg) (same_Some _ b is) tt
    no_negative (suc (suc k)) b is = absurd (cc)

    -- neither read is believed
    never : (k : ℕ) (d : Bridge) → slice_get (reduced_system mutual_support s).bridges k ≡ Some d → Applies d (Theory [] ∷ Theory [] ∷ []) → ⊥
    never zero d is applies = p_is_open ((second_believed [] []).0 ((subst (λ (x : Bridge). AllByRecursion (BelievesIn (Theory [] ∷ Theory [] ∷ [])) x.pos) (sym (same_Some _ d is)) applies.all_believed).0))
    never (suc zero) d is applies = p_is_open ((first_believed [] []).0 ((subst (λ (x : Bridge). AllByRecursion (BelievesIn (Theory [] ∷ Theory [] ∷ [])) x.pos) (sym (same_Some _ d is)) applies.all_believed).0))
    never (suc (suc k)) d is applies = absurd (cc)

    acting : (k : ℕ) (d : Bridge) → slice_get (reduced_system mutual_support s).bridges k ≡ Some d → IsTrue (has 0 k) ↔ ((IsTrue (has (all_rules mutual_support) k) × Applies d (Theory [] ∷ Theory [] ∷ [])) ⊎ IsTrue (has 0 k))
    acting k d is = (λ h. inr h, λ h. elim h [ inl both ↦ absurd (never k d is both.1) | inr none ↦ none ])

    accepted : (i : ℕ) (b : BeliefSet) → slice_get (Theory [] ∷ Theory [] ∷ []) i ≡ Some b → AcceptsWith (reduced_system mutual_support s) i 0 b
    accepted zero b is = let (d, there) = slice_get_below s 0 (omega (arith, long)) in
        subst (AcceptsWith (reduced_system mutual_support s) 0 0) (same_Some (Theory []) b is)
        ((reduct_accepts mutual_support s 0 0 context_a d (Theory []) refl there).1 (subst (λ (hs : List Formula). SameModels [] hs) (sym (heads_a (p_of_1 ∷ []) [] (p_of_0 ∷ []) [] 0 false false (has-empty 0) (has-empty 1))) (λ a. refl)))
    accepted (suc zero) b is = let (d, there) = slice_get_below s 1 (omega (arith, long)) in
        subst (AcceptsWith (reduced_system mutual_support s) 1 0) (same_Some (Theory []) b is)
        ((reduct_accepts mutual_support s 1 0 context_b d (Theory []) refl there).1 (subst (λ (hs : List Formula). SameModels [] hs) (sym (heads_b (p_of_1 ∷ []) [] (p_of_0 ∷ []) [] 0 false false (has-empty 0) (has-empty 1))) (λ a. refl)))
    accepted (suc (suc i)) b is = absurd (cc)

-- what lies within theories of nothing believes no atom
nothing_within : (b : BeliefSet) → LiesWithin b (Theory []) → (x : Bool) → Accepts (with_heads (Classical []) (cond x (p ∷ []) [])) b → ¬ Believes b p
nothing_within (Theory e) within x accepts h = p_is_open (λ a holds. h a (all_hold a e within))
nothing_within (Atoms a) within x accepts h = absurd accepts

-- ---- the state in which both rules act, and that in which none does
both_act : IsProjectedEquilibrium mutual_support (all_rules mutual_support) 0 3
both_act = record {
  state = Theory (p ∷ []) ∷ Theory (p ∷ []) ∷ [];
  balanced = made_equilibrium (p_of_1 ∷ []) [] (p_of_0 ∷ []) [] 3 (p ∷ []) (p ∷ []) (λ k h. subst (λ (x : ℕ). has x k ≡ true) (sym all_of_support) h)
      (λ h. record { all_believed = ((second_believed (p ∷ []) (p ∷ [])).1 p_follows, tt); none_believed = tt }, λ h. has_3_0)
      (λ h. record { all_believed = ((first_believed (p ∷ []) (p ∷ [])).1 p_follows, tt); none_believed = tt }, λ h. has_3_1)
      (λ a. rw has_3_0 refl) (λ a. rw has_3_1 refl);
  projection = made_projection (p_of_1 ∷ []) [] (p_of_0 ∷ []) [] variables_of_support (Theory (p ∷ []) ∷ Theory (p ∷ []) ∷ []) 3
      (λ h. (first_believed (p ∷ []) (p ∷ [])).1 p_follows, λ h. has_3_0) (λ h. (second_believed (p ∷ []) (p ∷ [])).1 p_follows, λ h. has_3_1) three_is;
}

none_acts : IsGroundedState mutual_support 0
none_acts = record {
  state = Theory [] ∷ Theory [] ∷ [];
  grounded = record { balanced = rests (Theory [] ∷ Theory [] ∷ []) refl; least = λ t e. least t };
  projection = made_projection (p_of_1 ∷ []) [] (p_of_0 ∷ []) [] variables_of_support (Theory [] ∷ Theory [] ∷ []) 0
      (λ h. no_rule _ 0 h, λ h. absurd (p_is_open ((first_believed [] []).0 h))) (λ h. no_rule _ 1 h, λ h. absurd (p_is_open ((second_believed [] []).0 h))) (λ k. has-empty (suc (suc k)));
}
  where
    least : (t : List BeliefSet) → IsWithin (Theory [] ∷ Theory [] ∷ []) t
    least t zero b c is own = subst (λ (x : BeliefSet). LiesWithin x c) (same_Some (Theory []) b is) tt
    least t (suc zero) b c is own = subst (λ (x : BeliefSet). LiesWithin x c) (same_Some (Theory []) b is) tt
    least t (suc (suc i)) b c is own = absurd (cc)

pub mutual_support_is_not_grounded : MutualSupportIsNotGrounded
mutual_support_is_not_grounded = (both_act, λ σ. (to σ, λ is. subst (IsGroundedState mutual_support) (sym is) none_acts))
  where
    to : (σ : ℕ) → IsGroundedState mutual_support σ → σ ≡ 0
    to σ g =
        let e = equilibrium_of_reduct mutual_support g.state g.grounded.balanced in
        let within = g.grounded.least (Theory [] ∷ Theory [] ∷ []) (rests g.state e.one_each) in
        none_where (p_of_1 ∷ []) [] (p_of_0 ∷ []) [] variables_of_support g.state σ g.projection
        (λ (b, own, h). nothing_within b (within 0 b (Theory []) own refl) (has e.acting 0) (accepted_a (p_of_1 ∷ []) [] (p_of_0 ∷ []) [] e.acting b (e.accepted 0 b own)) h)
        (λ (b, own, h). nothing_within b (within 1 b (Theory []) own refl) (has e.acting 1) (accepted_b (p_of_1 ∷ []) [] (p_of_0 ∷ []) [] e.acting b (e.accepted 1 b own)) h)

-- ---- mutual attack
single_is_1 : single 0 ≡ 1
unfolding single
single_is_1 = refl

single_is_2 : single 1 ≡ 2
unfolding single
single_is_2 = refl

-- where a believes p and b does not, each equilibrium of the reduct believes it too
module _ (s : List BeliefSet) (e : IsEquilibrium mutual_attack (all_rules mutual_attack) 0 s) where
  attack_grounded : (σ : ℕ) → IsProjection mutual_attack s σ → ((t : List BeliefSet) → IsReductEquilibrium mutual_attack s t → IsWithin s t) → IsGroundedState mutual_attack σ
  attack_grounded σ projection least = record {
    state = s;
    grounded = record { balanced = reduct_of_equilibrium mutual_attack s (unblocked_rules mutual_attack s) (are_unblocked mutual_attack s) e; least = least };
    projection = projection;
  }

first_wins : IsGroundedState mutual_attack (single 0)
first_wins = attack_grounded (Theory (p ∷ []) ∷ Theory [] ∷ []) balanced (single 0)
    (made_projection [] (p_of_1 ∷ []) [] (p_of_0 ∷ []) variables_of_attack (Theory (p ∷ []) ∷ Theory [] ∷ []) (single 0)
    (λ h. (first_believed (p ∷ []) []).1 p_follows, λ h. has-single 0 0) (λ h. absurd (true≢false (sym h ∙ has-single 0 1)), λ h. absurd (p_is_open ((second_believed (p ∷ []) []).0 h))) (λ k. no_other 0 (suc (suc k)) (λ e. omega (arith, e)))) least
  where
    balanced : IsEquilibrium mutual_attack (all_rules mutual_attack) 0 (Theory (p ∷ []) ∷ Theory [] ∷ [])
    balanced = made_equilibrium [] (p_of_1 ∷ []) [] (p_of_0 ∷ []) (single 0) (p ∷ []) [] within
        (λ h. record { all_believed = tt; none_believed = (λ believed. p_is_open ((second_believed (p ∷ []) []).0 believed), tt) }, λ h. has-single 0 0)
        (λ h. absurd (true≢false (sym h ∙ has-single 0 1)), λ h. absurd (h.none_believed.0 ((first_believed (p ∷ []) []).1 p_follows)))
        (λ a. rw (has-single 0 0) refl) (λ a. rw (has-single 0 1) refl)
      where
        within : (k : ℕ) → has (single 0) k ≡ true → has (all_rules mutual_attack) k ≡ true
        within zero h = rule_known mutual_attack 0 _ refl
        within (suc k) h = absurd (true≢false (sym h ∙ no_other 0 (suc k) (λ e. omega (arith, e))))

    least : (t : List BeliefSet) → IsReductEquilibrium mutual_attack (Theory (p ∷ []) ∷ Theory [] ∷ []) t → IsWithin (Theory (p ∷ []) ∷ Theory [] ∷ []) t
    least t e zero b c is own = subst (λ (x : BeliefSet). LiesWithin x c) (same_Some (Theory (p ∷ [])) b is) (
      (believes_p (has e.balanced.acting 0) c (reduct_a [] (p_of_1 ∷ []) [] (p_of_0 ∷ []) (Theory (p ∷ []) ∷ Theory [] ∷ []) t refl e c own)).1
          ((e.balanced.acting_is 0 _ refl).1 (inl ((e.unblocked.exactly 0 _ refl).1 (λ believed. p_is_open ((second_believed (p ∷ []) []).0 believed), tt), record { all_believed = tt; none_believed = tt }))),
      tt,
    )
    least t e (suc zero) b c is own = subst (λ (x : BeliefSet). LiesWithin x c) (same_Some (Theory []) b is) tt
    least t e (suc (suc i)) b c is own = absurd (cc)

second_wins : IsGroundedState mutual_attack (single 1)
second_wins = attack_grounded (Theory [] ∷ Theory (p ∷ []) ∷ []) balanced (single 1)
    (made_projection [] (p_of_1 ∷ []) [] (p_of_0 ∷ []) variables_of_attack (Theory [] ∷ Theory (p ∷ []) ∷ []) (single 1)
    (λ h. absurd (true≢false (sym h ∙ has-single 1 0)), λ h. absurd (p_is_open ((first_believed [] (p ∷ [])).0 h))) (λ h. (second_believed [] (p ∷ [])).1 p_follows, λ h. has-single 1 1) (λ k. no_other 1 (suc (suc k)) (λ e. omega (arith, e)))) least
  where
    balanced : IsEquilibrium mutual_attack (all_rules mutual_attack) 0 (Theory [] ∷ Theory (p ∷ []) ∷ [])
    balanced = made_equilibrium [] (p_of_1 ∷ []) [] (p_of_0 ∷ []) (single 1) [] (p ∷ []) within
        (λ h. absurd (true≢false (sym h ∙ has-single 1 0)), λ h. absurd (h.none_believed.0 ((second_believed [] (p ∷ [])).1 p_follows)))
        (λ h. record { all_believed = tt; none_believed = (λ believed. p_is_open ((first_believed [] (p ∷ [])).0 believed), tt) }, λ h. has-single 1 1)
        (λ a. rw (has-single 1 0) refl) (λ a. rw (has-single 1 1) refl)
      where
        within : (k : ℕ) → has (single 1) k ≡ true → has (all_rules mutual_attack) k ≡ true
        within zero h = rule_known mutual_attack 0 _ refl
        within (suc zero) h = rule_known mutual_attack 1 _ refl
        within (suc (suc k)) h = absurd (true≢false (sym h ∙ no_other 1 (suc (suc k)) (λ e. omega (arith, e))))

    least : (t : List BeliefSet) → IsReductEquilibrium mutual_attack (Theory [] ∷ Theory (p ∷ []) ∷ []) t → IsWithin (Theory [] ∷ Theory (p ∷ []) ∷ []) t
    least t e zero b c is own = subst (λ (x : BeliefSet). LiesWithin x c) (same_Some (Theory []) b is) tt
    least t e (suc zero) b c is own = subst (λ (x : BeliefSet). LiesWithin x c) (same_Some (Theory (p ∷ [])) b is) (
      (believes_p (has e.balanced.acting 1) c (reduct_b [] (p_of_1 ∷ []) [] (p_of_0 ∷ []) (Theory [] ∷ Theory (p ∷ []) ∷ []) t refl e c own)).1
          ((e.balanced.acting_is 1 _ refl).1 (inl ((e.unblocked.exactly 1 _ refl).1 (λ believed. p_is_open ((first_believed [] (p ∷ [])).0 believed), tt), record { all_believed = tt; none_believed = tt }))),
      tt,
    )
    least t e (suc (suc i)) b c is own = absurd (cc)

pub mutual_attack_is_grounded : MutualAttackIsGrounded
mutual_attack_is_grounded σ = (to, λ h. elim h [ inl is ↦ subst (IsGroundedState mutual_attack) (single_is_1 ∙ sym is) first_wins | inr is ↦ subst (IsGroundedState mutual_attack) (single_is_2 ∙ sym is) second_wins ])
  where
    to : IsGroundedState mutual_attack σ → (σ ≡ 1) ⊎ (σ ≡ 2)
    to g =
        let s = g.state in
        let e = equilibrium_of_reduct mutual_attack s g.grounded.balanced in
        let a = believed_a [] (p_of_1 ∷ []) [] (p_of_0 ∷ []) s e in
        let b = believed_b [] (p_of_1 ∷ []) [] (p_of_0 ∷ []) s e in
        let r = applies_r [] (p_of_1 ∷ []) [] (p_of_0 ∷ []) s e in
        let q = applies_s [] (p_of_1 ∷ []) [] (p_of_0 ∷ []) s e in
        elim (decided_in s p_of_1) [
          | inl second ↦ inr (second_alone [] (p_of_1 ∷ []) [] (p_of_0 ∷ []) variables_of_attack s σ g.projection (λ first. (r.0 (a.0 first)).none_believed.0 second) second ∙ single_is_2)
          | inr not ↦ inl (first_alone [] (p_of_1 ∷ []) [] (p_of_0 ∷ []) variables_of_attack s σ g.projection (a.1 (r.1 (record { all_believed = tt; none_believed = (not, tt) }))) not ∙ single_is_1)
        ]
