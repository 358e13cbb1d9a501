-- A program without rules, of which one bridge rule supports itself and the other is against it, evaluated.
use Rattle.std.proofs.Common.{◌≡◌, ℕ, zero, suc, Bool, true, false, cond, ◌&&◌, ◌||◌, List, [], ◌∷◌, length, codes, Some, ◌⊎◌, inl, inr, ◌↔◌, arith, refl, sym, ap, ◌∙◌, subst, true≢false, slice_get, IsTrue}
use Rattle.std.proofs.lemmas.Bool.{false_from_ne_true}
use Rattle.std.proofs.lemmas.Option.{same_Some}
use Rattle.std.specs.List.{AllByRecursion}
use Rattle.mcs_sets.specs.Sets.{has, single, Within}
use Rattle.mcs_sets.proofs.SetLemmas.{has-empty, has-single}
use Rattle.mcs_sets.proofs.Lattice.{none_from_no_member}
use Rattle.mcs_base.proofs.Lists.{slice_get_below}
use Rattle.mcs_system.specs.Plain.{Name, Formula, Program, Context, Read, Bridge, System, plain_rule}
use Rattle.mcs_system.specs.Logic.{is_in, BeliefSet, Theory, Atoms, Believes, Accepts, with_heads, IsAnswerSet}
use Rattle.mcs_system.specs.Systems.{variables, all_rules, heads_into, AcceptsWith, Applies, BelievesIn, IsEquilibrium, IsVariable}
use Rattle.mcs_laws.specs.Examples.{p, q, p_of_0}
use Rattle.mcs_reduct.specs.Examples.{name_p, name_q, empty_program, itself_or_other}
use Rattle.mcs_reduct.specs.Grounded.{LiesWithin, IsWithin, IsGroundedState}
use Rattle.mcs_reduct.specs.Laws.{MinimalIsNotGrounded}
use Rattle.mcs_reduct.specs.Reducts.{positive_part, reduced_system, IsReductEquilibrium}
use Rattle.mcs_reduct.proofs.Beliefs.{decided_in, are_unblocked, unblocked_rules}
use Rattle.mcs_reduct.proofs.Choices.{fact_there, answer_of_fact}
use Rattle.mcs_reduct.proofs.Programs.{fact}
use Rattle.mcs_reduct.proofs.Reduced.{reduct_accepts, reduced_long, rule_known, no_rule, no_other, equilibrium_of_reduct, reduct_of_equilibrium}

-- ---- the system
abbrev rule_r : Bridge
rule_r = plain_rule (codes "r") 0 p (p_of_0 ∷ []) []

abbrev rule_s : Bridge
rule_s = plain_rule (codes "s") 0 q [] (p_of_0 ∷ [])

abbrev m : System
m = itself_or_other

heads_are : (x : ℕ) (u v : Bool) → has x 0 ≡ u → has x 1 ≡ v → heads_into m 0 x ≡ cond u (p ∷ cond v (q ∷ []) []) (cond v (q ∷ []) [])
heads_are x true true e e' = rw (e, e') refl
heads_are x true false e e' = rw (e, e') refl
heads_are x false true e e' = rw (e, e') refl
heads_are x false false e e' = rw (e, e') refl

variables_are : variables m ≡ p_of_0 ∷ []
unfolding variables
variables_are = refl

only_variable : (v : ℕ) (r : Read) → IsVariable m v r → (v ≡ 0) × (r ≡ p_of_0)
only_variable v r var = at v (ap (λ (vs : List Read). slice_get vs v) (sym variables_are) ∙ var)
  where
    at : (v : ℕ) → slice_get (p_of_0 ∷ []) v ≡ Some r → (v ≡ 0) × (r ≡ p_of_0)
    at zero is = (refl, sym (same_Some p_of_0 r is))
    at (suc v) is = absurd (cc)

-- ---- facts
answer_of_p : IsAnswerSet (fact name_p ∷ []) (name_p ∷ [])
answer_of_p = answer_of_fact name_p (fact name_p ∷ []) refl refl

answer_of_q : IsAnswerSet (fact name_q ∷ []) (name_q ∷ [])
answer_of_q = answer_of_fact name_q (fact name_q ∷ []) refl refl

answer_of_nothing : IsAnswerSet [] []
answer_of_nothing = record { model = refl; minimal = λ b smaller h. true≢false (sym smaller.in_second) }

-- where q is a head it is in the answer set
q_inside : (u : Bool) (b : BeliefSet) → Accepts (with_heads (Program []) (cond u (p ∷ cond true (q ∷ []) []) (cond true (q ∷ []) []))) b → LiesWithin (Atoms (name_q ∷ [])) b
q_inside u (Theory e) accepts = absurd accepts
q_inside true (Atoms a) answer = (at (is_in name_p a) (is_in name_q a) answer.model, tt)
  where
    at : (v w : Bool) → ((v || false) && ((w || false) && true)) ≡ true → w ≡ true
    at true true e = refl
    at true false e = e
    at false w e = absurd (true≢false (sym e))
q_inside false (Atoms a) answer = (fact_there name_q a answer.model, tt)

-- what lies within no atoms has none
none_within : (names : List Name) → LiesWithin (Atoms names) (Atoms []) → is_in name_p names ≡ true → ⊥
none_within [] within h = true≢false (sym h)
none_within (n ∷ names) within h = true≢false (sym within.0)

-- ---- the equilibria
p_is_in : BelievesIn (Atoms (name_p ∷ []) ∷ []) p_of_0
p_is_in = (Atoms (name_p ∷ []), refl, refl)

p_is_not_in : ¬ BelievesIn (Atoms (name_q ∷ []) ∷ []) p_of_0
p_is_not_in (b, own, h) = true≢false (sym (subst (λ (x : BeliefSet). Believes x p) (sym (same_Some (Atoms (name_q ∷ [])) b own)) h))

module _ (x : ℕ) (names : List Name) (within : Within x (all_rules m)) (of_r : (has x 0 ≡ true) ↔ Applies rule_r (Atoms names ∷ [])) (of_s : (has x 1 ≡ true) ↔ Applies rule_s (Atoms names ∷ []))
    (answer : Accepts (with_heads (Program []) (heads_into m 0 x)) (Atoms names)) where
  both : (k : ℕ) (b : Bridge) → has (all_rules m) k ≡ true → (has x k ≡ true) ↔ Applies b (Atoms names ∷ []) → (has x k ≡ true) ↔ ((IsTrue (has (all_rules m) k) × Applies b (Atoms names ∷ [])) ⊎ IsTrue (has 0 k))
  both k b known same = (λ h. inl (known, same.0 h), λ h. elim h [ inl one ↦ same.1 one.1 | inr none ↦ no_rule (has x k ≡ true) k none ])

  acting : (k : ℕ) (b : Bridge) → slice_get m.bridges k ≡ Some b → (has x k ≡ true) ↔ ((IsTrue (has (all_rules m) k) × Applies b (Atoms names ∷ [])) ⊎ IsTrue (has 0 k))
  acting zero b is = subst (λ (d : Bridge). (has x 0 ≡ true) ↔ ((IsTrue (has (all_rules m) 0) × Applies d (Atoms names ∷ [])) ⊎ IsTrue (has 0 0))) (same_Some rule_r b is) (both 0 rule_r (rule_known m 0 rule_r refl) of_r)
  acting (suc zero) b is = subst (λ (d : Bridge). (has x 1 ≡ true) ↔ ((IsTrue (has (all_rules m) 1) × Applies d (Atoms names ∷ [])) ⊎ IsTrue (has 0 1))) (same_Some rule_s b is) (both 1 rule_s (rule_known m 1 rule_s refl) of_s)
  acting (suc (suc k)) b is = absurd (cc)

  accepted : (i : ℕ) (b : BeliefSet) → slice_get (Atoms names ∷ []) i ≡ Some b → AcceptsWith m i x b
  accepted zero b is = subst (AcceptsWith m 0 x) (same_Some (Atoms names) b is) (empty_program, refl, answer)
  accepted (suc i) b is = absurd (cc)

  made_equilibrium : IsEquilibrium m (all_rules m) 0 (Atoms names ∷ [])
  made_equilibrium = record { one_each = refl; acting = x; of_rules = within; acting_is = acting; accepted = accepted }

p_alone : IsEquilibrium m (all_rules m) 0 (Atoms (name_p ∷ []) ∷ [])
p_alone = made_equilibrium (single 0) (name_p ∷ []) within
    (λ h. record { all_believed = (p_is_in, tt); none_believed = tt }, λ h. has-single 0 0)
    (λ h. absurd (true≢false (sym h ∙ has-single 0 1)), λ h. absurd (h.none_believed.0 p_is_in))
    (subst (λ (hs : List Formula). Accepts (with_heads (Program []) hs) (Atoms (name_p ∷ []))) (sym (heads_are (single 0) true false (has-single 0 0) (has-single 0 1))) answer_of_p)
  where
    within : (k : ℕ) → has (single 0) k ≡ true → has (all_rules m) k ≡ true
    within zero h = rule_known m 0 rule_r refl
    within (suc k) h = absurd (true≢false (sym h ∙ no_other 0 (suc k) (λ e. omega (arith, e))))

q_alone : IsEquilibrium m (all_rules m) 0 (Atoms (name_q ∷ []) ∷ [])
q_alone = made_equilibrium (single 1) (name_q ∷ []) within
    (λ h. absurd (true≢false (sym h ∙ has-single 1 0)), λ h. absurd (p_is_not_in h.all_believed.0))
    (λ h. record { all_believed = tt; none_believed = (p_is_not_in, tt) }, λ h. has-single 1 1)
    (subst (λ (hs : List Formula). Accepts (with_heads (Program []) hs) (Atoms (name_q ∷ []))) (sym (heads_are (single 1) false true (has-single 1 0) (has-single 1 1))) answer_of_q)
  where
    within : (k : ℕ) → has (single 1) k ≡ true → has (all_rules m) k ≡ true
    within zero h = absurd (true≢false (sym h ∙ has-single 1 0))
    within (suc zero) h = rule_known m 1 rule_s refl
    within (suc (suc k)) h = absurd (true≢false (sym h ∙ no_other 1 (suc (suc k)) (λ e. omega (arith, e))))

-- ---- only one is grounded
q_grounded : IsGroundedState m 0
q_grounded = record {
  state = Atoms (name_q ∷ []) ∷ [];
  grounded = record { balanced = reduct_of_equilibrium m (Atoms (name_q ∷ []) ∷ []) (unblocked_rules m (Atoms (name_q ∷ []) ∷ [])) (are_unblocked m (Atoms (name_q ∷ []) ∷ [])) q_alone; least = within_each };
  projection = λ v. (no_rule _ v, λ (r, var, believed). absurd (p_is_not_in (subst (BelievesIn (Atoms (name_q ∷ []) ∷ [])) (only_variable v r var).1 believed)));
}
  where
    within_each : (t : List BeliefSet) → IsReductEquilibrium m (Atoms (name_q ∷ []) ∷ []) t → IsWithin (Atoms (name_q ∷ []) ∷ []) t
    within_each t e zero b c is own =
        let acts : has e.balanced.acting 1 ≡ true = (e.balanced.acting_is 1 (positive_part rule_s) refl).1 (inl ((e.unblocked.exactly 1 rule_s refl).1 (p_is_not_in, tt), record { all_believed = tt; none_believed = tt })) in
        let accepts = (reduct_accepts m (Atoms (name_q ∷ []) ∷ []) 0 e.balanced.acting empty_program (Atoms (name_q ∷ [])) c refl refl).0 (e.balanced.accepted 0 c own) in
        subst (λ (x : BeliefSet). LiesWithin x c) (same_Some (Atoms (name_q ∷ [])) b is)
        (q_inside (has e.balanced.acting 0) c (subst (λ (hs : List Formula). Accepts (with_heads (Program []) hs) c) (heads_are e.balanced.acting (has e.balanced.acting 0) true refl acts) accepts))
    within_each t e (suc i) b c is own = absurd (cc)

-- where p is believed, the reduct has an equilibrium without it
module _ (s : List BeliefSet) (long : length s ≡ 1) (believed : BelievesIn s p_of_0) where
  nothing_acts : IsReductEquilibrium m s (Atoms [] ∷ [])
  nothing_acts = record {
    rules = unblocked_rules m s;
    unblocked = are_unblocked m s;
    balanced = record {
      one_each = sym (reduced_long m.contexts s);
      acting = 0;
      of_rules = λ k h. no_rule _ k h;
      acting_is = λ k d is. (λ h. inr h, λ h. elim h [ inl both ↦ absurd (never k d is both.0 both.1) | inr none ↦ none ]);
      accepted = accepted;
    };
  }
    where
      never : (k : ℕ) (d : Bridge) → slice_get (reduced_system m s).bridges k ≡ Some d → has (unblocked_rules m s) k ≡ true → Applies d (Atoms [] ∷ []) → ⊥
      never zero d is there applies =
          let (b, own, h) = (subst (λ (x : Bridge). AllByRecursion (BelievesIn (Atoms [] ∷ [])) x.pos) (sym (same_Some (positive_part rule_r) d is)) applies.all_believed).0 in
          true≢false (sym (subst (λ (x : BeliefSet). Believes x p) (sym (same_Some (Atoms []) b own)) h))
      never (suc zero) d is there applies = (((are_unblocked m s).exactly 1 rule_s refl).0 there).0 believed
      never (suc (suc k)) d is there applies = absurd (cc)

      accepted : (i : ℕ) (b : BeliefSet) → slice_get (Atoms [] ∷ []) i ≡ Some b → AcceptsWith (reduced_system m s) i 0 b
      accepted zero b is = let (d, there) = slice_get_below s 0 (omega (arith, long)) in
          subst (AcceptsWith (reduced_system m s) 0 0) (same_Some (Atoms []) b is)
          ((reduct_accepts m s 0 0 empty_program d (Atoms []) refl there).1 (subst (λ (hs : List Formula). Accepts (with_heads (Program []) hs) (Atoms [])) (sym (heads_are 0 false false (has-empty 0) (has-empty 1))) answer_of_nothing))
      accepted (suc i) b is = absurd (cc)

grounded_is : (σ : ℕ) → IsGroundedState m σ → σ ≡ 0
grounded_is σ g = elim (decided_in g.state p_of_0) [
  | inl believed ↦ absurd (refuted believed)
  | inr not ↦ none_from_no_member σ (λ v. false_from_ne_true (has σ v) (λ h. (let (r, var, here) = (g.projection v).0 h in not (subst (BelievesIn g.state) (only_variable v r var).1 here))))
]
  where
    refuted : BelievesIn g.state p_of_0 → ⊥
    refuted (b, own, h) =
        let e = equilibrium_of_reduct m g.state g.grounded.balanced in
        let (c, is, accepts) = e.accepted 0 b own in
        at b (subst (λ (x : Context). Accepts (with_heads x.kb (heads_into m 0 e.acting)) b) (sym (same_Some empty_program c is)) accepts)
        (g.grounded.least (Atoms [] ∷ []) (nothing_acts g.state e.one_each (b, own, h)) 0 b (Atoms []) own refl) h
      where
        at : (b : BeliefSet) → Accepts (with_heads (Program []) (heads_into m 0 (equilibrium_of_reduct m g.state g.grounded.balanced).acting)) b → LiesWithin b (Atoms []) → Believes b p → ⊥
        at (Theory fs) accepts within h = accepts
        at (Atoms names) accepts within h = none_within names within h

pub minimal_is_not_grounded : MinimalIsNotGrounded
minimal_is_not_grounded = (
  p_alone,
  q_alone,
  λ within. true≢false (sym (within 0 (Atoms (name_p ∷ [])) (Atoms (name_q ∷ [])) refl refl).0),
  λ within. true≢false (sym (within 0 (Atoms (name_q ∷ [])) (Atoms (name_p ∷ [])) refl refl).0),
  λ σ. (grounded_is σ, λ is. subst (IsGroundedState m) (sym is) q_grounded),
)
