-- A system of which some rules alone are applied has the equilibria of the system with these rules alone.
use Rattle.std.proofs.Common.{◌≡◌, ℕ, ◌+◌, suc, Bool, true, false, ◌&&◌, cond, List, [], ◌∷◌, length, Option, Some, None, ◌⊎◌, inl, inr, ◌↔◌, arith, refl, sym, ap, ◌∙◌, subst, eqb, ltb, slice_get}
use Rattle.std.proofs.lemmas.Bool.{and_parts, and_from, lt-ltb}
use Rattle.std.proofs.lemmas.Option.{slice_get_within}
use Rattle.std.specs.Cmp.{both_ways}
use Rattle.std.specs.List.{AllByRecursion}
use Rattle.mcs_sets.specs.Sets.{has, common, such_that}
use Rattle.mcs_sets.proofs.SetLemmas.{has-common, has-such_that}
use Rattle.mcs_base.proofs.Booleans.{test_of, test_of-tells}
use Rattle.mcs_base.proofs.Deciding.{cases_all, cases_not}
use Rattle.mcs_system.specs.Plain.{Formula, Bridge, System}
use Rattle.mcs_system.specs.Logic.{BeliefSet, Accepts, with_heads}
use Rattle.mcs_system.specs.Systems.{all_rules, heads_from, heads_into, Applies, BelievesIn, IsEquilibrium}
use Rattle.mcs_system.proofs.MarkLemmas.{has-all_rules}
use Rattle.mcs_reduct.specs.Reducts.{rules_of, with_rules}
use Rattle.mcs_reduct.proofs.Beliefs.{decided_in}
use Rattle.mcs_reduct.proofs.Reduced.{rule_known, no_rule}

module _ (t : List BeliefSet) where
  -- ---- which rules apply is decided
  applies_or_not : (b : Bridge) → Applies b t ⊎ (¬ Applies b t)
  applies_or_not b = at (cases_all (BelievesIn t) b.pos (λ r. decided_in t r)) (cases_all (λ r. ¬ BelievesIn t r) b.neg (λ r. cases_not (decided_in t r)))
    where
      at : AllByRecursion (BelievesIn t) b.pos ⊎ (¬ AllByRecursion (BelievesIn t) b.pos) → AllByRecursion (λ r. ¬ BelievesIn t r) b.neg ⊎ (¬ AllByRecursion (λ r. ¬ BelievesIn t r) b.neg) → Applies b t ⊎ (¬ Applies b t)
      at (inl all) (inl none) = inl (record { all_believed = all; none_believed = none })
      at (inl all) (inr some) = inr (λ a. some a.none_believed)
      at (inr lacks) d = inr (λ a. lacks a.all_believed)

  abbrev does_apply : Bridge → Bool
  does_apply b = test_of (applies_or_not b)

  tells : (b : Bridge) → (does_apply b ≡ true) ↔ Applies b t
  tells b = test_of-tells (applies_or_not b)

  abbrev applies_here : Option Bridge → Bool
  applies_here None = false
  applies_here (Some b) = does_apply b

  -- those of the rules that apply
  abbrev applying : List Bridge → ℕ
  applying bs = such_that (length bs) (λ k. applies_here (slice_get bs k))

  applying_is : (bs : List Bridge) (k : ℕ) (b : Bridge) → slice_get bs k ≡ Some b → has (applying bs) k ≡ does_apply b
  applying_is bs k b is = has-such_that (length bs) (λ k. applies_here (slice_get bs k)) k ∙ ap (λ (v : Bool). v && applies_here (slice_get bs k)) (lt-ltb k (length bs) (slice_get_within bs k b is)) ∙ ap applies_here is

  applying_known : (m : System) (k : ℕ) → has (applying m.bridges) k ≡ true → has (all_rules m) k ≡ true
  applying_known m k h = has-all_rules m k ∙ (and_parts (ltb k (length m.bridges)) (applies_here (slice_get m.bridges k)) (sym (has-such_that (length m.bridges) (λ k. applies_here (slice_get m.bridges k)) k) ∙ h)).0

  -- ---- the heads are the same, where y has those of the rules of x that apply, and z those of the shorter list
  same_heads : (k j : ℕ) (bs : List Bridge) (i x y z : ℕ) → ((n : ℕ) (b : Bridge) → slice_get bs n ≡ Some b → has y (k + n) ≡ (has x (k + n) && does_apply b))
      → ((n : ℕ) (b : Bridge) → slice_get (rules_of k bs x) n ≡ Some b → has z (j + n) ≡ does_apply b) → heads_from j (rules_of k bs x) i z ≡ heads_from k bs i y
  same_heads k j [] i x y z of_y of_z = refl
  same_heads k j (b ∷ bs) i x y z of_y of_z =
      let own : has y k ≡ (has x k && does_apply b) = (let e : k + 0 ≡ k = omega arith in subst (λ (n : ℕ). has y n ≡ (has x n && does_apply b)) e (of_y 0 b refl)) in
      at (has x k) own of_z (λ j' of_rest. same_heads (k + 1) j' bs i x y z later of_rest)
    where
      later : (n : ℕ) (d : Bridge) → slice_get bs n ≡ Some d → has y (k + 1 + n) ≡ (has x (k + 1 + n) && does_apply d)
      later n d is = let e : k + suc n ≡ k + 1 + n = omega arith in subst (λ (n : ℕ). has y n ≡ (has x n && does_apply d)) e (of_y (suc n) d is)

      at : (v : Bool) → has y k ≡ (v && does_apply b) → ((n : ℕ) (d : Bridge) → slice_get (cond v (b ∷ rules_of (k + 1) bs x) (rules_of (k + 1) bs x)) n ≡ Some d → has z (j + n) ≡ does_apply d)
          → ((j' : ℕ) → ((n : ℕ) (d : Bridge) → slice_get (rules_of (k + 1) bs x) n ≡ Some d → has z (j' + n) ≡ does_apply d) → heads_from j' (rules_of (k + 1) bs x) i z ≡ heads_from (k + 1) bs i y)
          → heads_from j (cond v (b ∷ rules_of (k + 1) bs x) (rules_of (k + 1) bs x)) i z ≡ cond (has y k && eqb b.target i) (b.head ∷ heads_from (k + 1) bs i y) (heads_from (k + 1) bs i y)
      at true own of_z rest =
          let e : j + 0 ≡ j = omega arith in
          let here : has z j ≡ has y k = ap (has z) (sym e) ∙ of_z 0 b refl ∙ sym own in
          let after = rest (j + 1) (λ n d is. (let e' : j + suc n ≡ j + 1 + n = omega arith in ap (has z) (sym e') ∙ of_z (suc n) d is)) in
          rw (here, after) refl
      at false own of_z rest = rest j of_z ∙ sym (ap (λ (v : Bool). cond (v && eqb b.target i) (b.head ∷ heads_from (k + 1) bs i y) (heads_from (k + 1) bs i y)) own)

  module _ (m : System) (x : ℕ) where
    same_all : (i y z : ℕ) → ((n : ℕ) (b : Bridge) → slice_get m.bridges n ≡ Some b → has y n ≡ (has x n && does_apply b))
        → ((n : ℕ) (b : Bridge) → slice_get (with_rules m x).bridges n ≡ Some b → has z n ≡ does_apply b) → heads_into (with_rules m x) i z ≡ heads_into m i y
    same_all i y z of_y of_z = same_heads 0 0 m.bridges i x y z
        (λ n b is. (let e : n ≡ 0 + n = omega arith in subst (λ (n : ℕ). has y n ≡ (has x n && does_apply b)) e (of_y n b is)))
        (λ n b is. (let e : n ≡ 0 + n = omega arith in subst (λ (n : ℕ). has z n ≡ does_apply b) e (of_z n b is)))

    -- ---- from the one to the other
    pub rules_alone : IsEquilibrium m x 0 t → IsEquilibrium (with_rules m x) (all_rules (with_rules m x)) 0 t
    rules_alone e = record {
      one_each = e.one_each;
      acting = applying (with_rules m x).bridges;
      of_rules = λ k h. applying_known (with_rules m x) k h;
      acting_is = λ k b is. (
        λ h. inl (rule_known (with_rules m x) k b is, (tells b).0 (sym (applying_is (with_rules m x).bridges k b is) ∙ h)),
        λ h. elim h [ inl both ↦ applying_is (with_rules m x).bridges k b is ∙ (tells b).1 both.1 | inr none ↦ no_rule _ k none ],
      );
      accepted = λ i b is. (let (c, there, accepts) = e.accepted i b is in
          (c, there, subst (λ (hs : List Formula). Accepts (with_heads c.kb hs) b) (sym (same_all i e.acting (applying (with_rules m x).bridges) own (λ n d at. applying_is (with_rules m x).bridges n d at))) accepts));
    }
      where
        own : (k : ℕ) (b : Bridge) → slice_get m.bridges k ≡ Some b → has e.acting k ≡ (has x k && does_apply b)
        own k b is = both_ways _ _
            (λ h. elim ((e.acting_is k b is).0 h) [ inl both ↦ and_from (has x k) (does_apply b) both.0 ((tells b).1 both.1) | inr none ↦ no_rule _ k none ])
            (λ h. (let (inside, applies) = and_parts (has x k) (does_apply b) h in (e.acting_is k b is).1 (inl (inside, (tells b).0 applies))))

    pub rules_chosen : IsEquilibrium (with_rules m x) (all_rules (with_rules m x)) 0 t → IsEquilibrium m x 0 t
    rules_chosen e = record {
      one_each = e.one_each;
      acting = common x (applying m.bridges);
      of_rules = λ k h. applying_known m k (and_parts (has x k) (has (applying m.bridges) k) (sym (has-common x (applying m.bridges) k) ∙ h)).1;
      acting_is = λ k b is. (
        λ h. (let (inside, applies) = and_parts (has x k) (does_apply b) (sym (own k b is) ∙ h) in inl (inside, (tells b).0 applies)),
        λ h. elim h [ inl both ↦ own k b is ∙ and_from (has x k) (does_apply b) both.0 ((tells b).1 both.1) | inr none ↦ no_rule _ k none ],
      );
      accepted = λ i b is. (let (c, there, accepts) = e.accepted i b is in
          (c, there, subst (λ (hs : List Formula). Accepts (with_heads c.kb hs) b) (same_all i (common x (applying m.bridges)) e.acting own applies) accepts));
    }
      where
        own : (k : ℕ) (b : Bridge) → slice_get m.bridges k ≡ Some b → has (common x (applying m.bridges)) k ≡ (has x k && does_apply b)
        own k b is = has-common x (applying m.bridges) k ∙ ap (λ (v : Bool). has x k && v) (applying_is m.bridges k b is)

        applies : (k : ℕ) (b : Bridge) → slice_get (with_rules m x).bridges k ≡ Some b → has e.acting k ≡ does_apply b
        applies k b is = both_ways _ _
            (λ h. elim ((e.acting_is k b is).0 h) [ inl both ↦ (tells b).1 both.1 | inr none ↦ no_rule _ k none ])
            (λ h. (e.acting_is k b is).1 (inl (rule_known (with_rules m x) k b is, (tells b).0 h)))
