-- Equilibria by their projections: what the parts accept one by one.
use Rattle.std.proofs.Common.{◌≡◌, ℕ, ◌+◌, ◌<◌, suc, Bool, true, false, not, ◌&&◌, ◌||◌, eqb, ltb, List, [], ◌∷◌, ◌++◌, length, Some, refl, sym, ap, ◌∙◌, subst, inl, inr, ◌⊎◌, ◌↔◌, arith, IsTrue, true≢false, slice_get}
use Rattle.std.proofs.lemmas.Bool.{and_parts}
use Rattle.std.proofs.lemmas.Bool.Decides.{nat_tests}
use Rattle.std.specs.List.{list_all, AllByRecursion}
use Rattle.mcs_sets.specs.Sets.{has, common, Within}
use Rattle.mcs_sets.proofs.SetLemmas.{has-such_that, has-common, has-union}
use Rattle.mcs_system.specs.Plain.{Formula, Read, Bridge, System}
use Rattle.mcs_system.specs.Logic.{BeliefSet, Believes, Accepts, with_heads}
use Rattle.mcs_system.specs.Systems.{variables, variables_of, all_variables, all_rules, BelievesIn, Applies, heads_from, heads_into, AcceptsWith, IsVariable, IsProjection, IsProjectedEquilibrium, IsAcceptedPart, believed_at, applies_at, acting_at}
use Rattle.mcs_base.specs.Listings.{IsAmong}
use Rattle.mcs_base.proofs.Among.{among_left, among_right}
use Rattle.std.proofs.lemmas.Option.{slice_get_within}
use Rattle.mcs_base.proofs.Lists.{slice_get_below, choose_below}
use Rattle.mcs_base.proofs.Each.{all_by_test}
use Rattle.mcs_system.proofs.MarkLemmas.{has-all_rules}
use Rattle.mcs_system.proofs.VariableLemmas.{variable_in_range, read_is_variable, believed_from, from_believed, has-applicable, has-variables_of}
use Rattle.std.specs.Cmp.{both_ways}

believed-same : (m : System) (s : List BeliefSet) (σ : ℕ) → length s ≡ length m.contexts → IsProjection m s σ → (k : ℕ) (b : Bridge) (r : Read) → slice_get m.bridges k ≡ Some b → IsAmong r (b.pos ++ b.neg) → BelievesIn s r ↔ (believed_at m σ r ≡ true)
believed-same m s σ long projection k b r is here = (
  λ believes.
      let in_range : r.context < length s = slice_get_within s r.context believes.0 believes.1 in
      let (v, var) = read_is_variable m k b r is here (omega arith) in
      let member : has σ v ≡ true = (projection v).1 (r, var, believes) in
      from_believed σ 0 r (variables m) v var (ap (has σ) (omega arith) ∙ member),
  λ test.
      let (v, var, member) = believed_from σ 0 r (variables m) test in
      let (q, var', believes) = (projection v).0 (ap (has σ) (omega arith) ∙ member) in
      let same : q ≡ r = cc in subst (BelievesIn s) same believes,
)

applies-same : (m : System) (s : List BeliefSet) (σ : ℕ) → length s ≡ length m.contexts → IsProjection m s σ → (k : ℕ) (b : Bridge) → slice_get m.bridges k ≡ Some b → Applies b s ↔ (applies_at m σ b ≡ true)
applies-same m s σ long projection k b is = (
  λ h. both_true (pos.0 h.all_believed) (neg.0 h.none_believed),
  λ test. let parts = and_parts (list_all (believed_at m σ) b.pos) (list_all (λ r. not (believed_at m σ r)) b.neg) test in
      record { all_believed = pos.1 parts.0; none_believed = neg.1 parts.1 },
)
  where
    both_true : {u v : Bool} → u ≡ true → v ≡ true → (u && v) ≡ true
    both_true e e' = rw (e, e') refl

    pos : AllByRecursion (BelievesIn s) b.pos ↔ (list_all (believed_at m σ) b.pos ≡ true)
    pos = all_by_test (BelievesIn s) (believed_at m σ) b.pos (λ r here. believed-same m s σ long projection k b r is (among_left r b.pos b.neg here))

    negated : (P : Type 0) (v : Bool) → P ↔ (v ≡ true) → (¬ P) ↔ (not v ≡ true)
    negated P true same = (λ no. absurd (no (same.1 refl)), λ e p. true≢false (sym e))
    negated P false same = (λ no. refl, λ e p. true≢false (sym (same.0 p)))

    neg : AllByRecursion (λ r. ¬ BelievesIn s r) b.neg ↔ (list_all (λ r. not (believed_at m σ r)) b.neg ≡ true)
    neg = all_by_test (λ r. ¬ BelievesIn s r) (λ r. not (believed_at m σ r)) b.neg (λ r here. negated (BelievesIn s r) (believed_at m σ r) (believed-same m s σ long projection k b r is (among_right r b.pos b.neg here)))

-- ---- the rules that act
pub acting_at-is : (m : System) (r1 r2 : ℕ) (s : List BeliefSet) (σ : ℕ) → length s ≡ length m.contexts → IsProjection m s σ
    → (k : ℕ) (b : Bridge) → slice_get m.bridges k ≡ Some b → IsTrue (has (acting_at m σ r1 r2) k) ↔ ((IsTrue (has r1 k) × Applies b s) ⊎ IsTrue (has r2 k))
acting_at-is m r1 r2 s σ long projection k b is = join (applies-same m s σ long projection k b is) (has r1 k) (has r2 k) (applies_at m σ b) refl (has-union _ _ k ∙ rw (has-common, has-applicable m σ k b is) refl)
  where
    parts : (w u v : Bool) → ((w && u) || v) ≡ true → ((u ≡ true) × (w ≡ true)) ⊎ (v ≡ true)
    parts true true v e = inl (refl, refl)
    parts true false v e = inr e
    parts false u v e = inr e

    joined : (w u v : Bool) → ((u ≡ true) × (w ≡ true)) ⊎ (v ≡ true) → ((w && u) || v) ≡ true
    joined true true v h = refl
    joined true false v (inl h) = absurd (true≢false (sym h.0))
    joined true false v (inr h) = h
    joined false u v (inl h) = absurd (true≢false (sym h.1))
    joined false u v (inr h) = h

    join : Applies b s ↔ (applies_at m σ b ≡ true) → (u v w : Bool) → w ≡ applies_at m σ b → has (acting_at m σ r1 r2) k ≡ ((w && u) || v) → IsTrue (has (acting_at m σ r1 r2) k) ↔ (((u ≡ true) × Applies b s) ⊎ (v ≡ true))
    join same u v w is_w e = (
      λ is. elim (parts w u v (sym e ∙ is)) [ inl h ↦ inl (h.0, same.1 (sym is_w ∙ h.1)) | inr h ↦ inr h ],
      λ h. e ∙ elim h [ inl h ↦ joined w u v (inl (h.0, is_w ∙ same.0 h.1)) | inr h ↦ joined w u v (inr h) ],
    )

acting-same : (m : System) (r1 r2 : ℕ) (s : List BeliefSet) (σ acting : ℕ) → length s ≡ length m.contexts → IsProjection m s σ
    → ((k : ℕ) (b : Bridge) → slice_get m.bridges k ≡ Some b → IsTrue (has acting k) ↔ ((IsTrue (has r1 k) × Applies b s) ⊎ IsTrue (has r2 k)))
    → (k : ℕ) (b : Bridge) → slice_get m.bridges k ≡ Some b → has acting k ≡ has (acting_at m σ r1 r2) k
acting-same m r1 r2 s σ acting long projection acts k b is = let at = acting_at-is m r1 r2 s σ long projection k b is in both_ways _ _ (λ e. at.1 ((acts k b is).0 e)) (λ e. (acts k b is).1 (at.0 e))

-- the heads are those of the rules that act
heads-same : (k : ℕ) (bs : List Bridge) (i x y : ℕ) → ((j : ℕ) (b : Bridge) → slice_get bs j ≡ Some b → has x (k + j) ≡ has y (k + j)) → heads_from k bs i x ≡ heads_from k bs i y
heads-same k [] i x y same = refl
heads-same k (b ∷ bs) i x y same =
    let here : has x k ≡ has y k = ap (has x) (omega arith) ∙ same 0 b refl ∙ ap (has y) (omega arith) in
    let rest : heads_from (k + 1) bs i x ≡ heads_from (k + 1) bs i y = heads-same (k + 1) bs i x y (λ j c is. ap (has x) (omega arith) ∙ same (suc j) c is ∙ ap (has y) (omega arith)) in
    rw (here, rest) refl

-- those of them that are rules of the system
module _ (m : System) (x : ℕ) where
  abbrev pub own_rules : ℕ
  own_rules = common x (all_rules m)

  pub own-known : Within own_rules (all_rules m)
  own-known k is = let e = has-common x (all_rules m) k in grind (arith, nat_tests)

  pub own-same : (k : ℕ) (b : Bridge) → slice_get m.bridges k ≡ Some b → has own_rules k ≡ has x k
  own-same k b is = let less = slice_get_within m.bridges k b is in let e = has-common x (all_rules m) k in let known = has-all_rules m k in grind (arith, nat_tests)

  pub own-heads : (i : ℕ) → heads_into m i own_rules ≡ heads_into m i x
  own-heads i = heads-same 0 m.bridges i _ _ (λ j b is. ap (has own_rules) (omega arith) ∙ own-same j b is ∙ ap (has x) (omega arith))

-- ---- equilibria by their projections
pub parts_of : (m : System) (r1 r2 σ : ℕ) → IsProjectedEquilibrium m r1 r2 σ → Within σ (all_variables m) × ((i : ℕ) → i < length m.contexts → IsAcceptedPart m i (acting_at m σ r1 r2) (common σ (variables_of m i)))
parts_of m r1 r2 σ p = (within, part)
  where
    within : (v : ℕ) → has σ v ≡ true → has (all_variables m) v ≡ true
    within v member = let (r, var, believes) = (p.projection v).0 member in let less = slice_get_within (variables m) v r var in has-such_that _ _ v ∙ grind (arith, nat_tests)

    heads : (i : ℕ) → heads_into m i p.balanced.acting ≡ heads_into m i (acting_at m σ r1 r2)
    heads i = heads-same 0 m.bridges i _ _ (λ j b is. ap (has p.balanced.acting) (omega arith) ∙ acting-same m r1 r2 p.state σ p.balanced.acting p.balanced.one_each p.projection p.balanced.acting_is j b is ∙ ap (has (acting_at m σ r1 r2)) (omega arith))

    split : (i v : ℕ) → has (common σ (variables_of m i)) v ≡ true → (has σ v ≡ true) × (has (variables_of m i) v ≡ true)
    split i v member = and_parts _ _ (sym (has-common σ (variables_of m i) v) ∙ member)

    to : (i : ℕ) (b : BeliefSet) → slice_get p.state i ≡ Some b → (v : ℕ) → has (common σ (variables_of m i)) v ≡ true → (r : Read) × IsVariable m v r × (r.context ≡ i) × Believes b r.belief
    to i b is_b v member =
        let both = split i v member in
        let (r, var, believes) = (p.projection v).0 both.0 in
        let own : eqb r.context i ≡ true = sym (has-variables_of m i v r var) ∙ both.1 in
        let same : r.context ≡ i = grind (arith, nat_tests) in
        let there : slice_get p.state i ≡ Some believes.0 = ap (slice_get p.state) (sym same) ∙ believes.1 in
        let one : believes.0 ≡ b = cc in
        (r, var, same, subst (λ (c : BeliefSet). Believes c r.belief) one believes.2)

    from : (i : ℕ) (b : BeliefSet) → slice_get p.state i ≡ Some b → (v : ℕ) → ((r : Read) × IsVariable m v r × (r.context ≡ i) × Believes b r.belief) → has (common σ (variables_of m i)) v ≡ true
    from i b is_b v (r, var, same, believes) =
        let member : has σ v ≡ true = (p.projection v).1 (r, var, (b, ap (slice_get p.state) same ∙ is_b, believes)) in
        let own : has (variables_of m i) v ≡ true = has-variables_of m i v r var ∙ grind (arith, nat_tests) in
        has-common σ (variables_of m i) v ∙ rw (member, own) refl

    part : (i : ℕ) → i < length m.contexts → IsAcceptedPart m i (acting_at m σ r1 r2) (common σ (variables_of m i))
    part i less =
        let (b, is_b) = slice_get_below p.state i (omega (arith, p.balanced.one_each)) in
        let (c, is_c, accepts) = p.balanced.accepted i b is_b in
        record {
          belief = b;
          accepted = (c, is_c, subst (λ (hs : List Formula). Accepts (with_heads c.kb hs) b) (heads i) accepts);
          part = λ v. (to i b is_b v, from i b is_b v);
        }

pub from_parts : (m : System) (r1 r2 σ : ℕ) → Within σ (all_variables m) → ((i : ℕ) → i < length m.contexts → IsAcceptedPart m i (acting_at m σ r1 r2) (common σ (variables_of m i))) → IsProjectedEquilibrium m r1 r2 σ
from_parts m r1 r2 σ within each = let (s, long, all) = choose_below Q (length m.contexts) (λ i less. ((each i less).belief, ((each i less).accepted, (each i less).part))) in made s long all
  where
    Q : ℕ → BeliefSet → Type 0
    Q i b = AcceptsWith m i (acting_at m σ r1 r2) b × ((v : ℕ) → IsTrue (has (common σ (variables_of m i)) v) ↔ ((r : Read) × IsVariable m v r × (r.context ≡ i) × Believes b r.belief))

    to : (s : List BeliefSet) → length s ≡ length m.contexts → ((i : ℕ) (b : BeliefSet) → slice_get s i ≡ Some b → Q i b) → (v : ℕ) → has σ v ≡ true → (r : Read) × IsVariable m v r × BelievesIn s r
    to s long all v member =
        let known : ltb v (length (variables m)) ≡ true = (and_parts _ _ (sym (has-such_that (length (variables m)) (λ k. true) v) ∙ within v member)).0 in
        let (r, var) = slice_get_below (variables m) v (grind (arith, nat_tests)) in
        let less = variable_in_range m v r var in
        let (b, is_b) = slice_get_below s r.context (omega (arith, long)) in
        let own : has (variables_of m r.context) v ≡ true = has-variables_of m r.context v r var ∙ grind (arith, nat_tests) in
        let both : has (common σ (variables_of m r.context)) v ≡ true = has-common σ (variables_of m r.context) v ∙ rw (member, own) refl in
        let (r', var', same, believes) = ((all r.context b is_b).1 v).0 both in
        (r', var', (b, ap (slice_get s) same ∙ is_b, believes))

    from : (s : List BeliefSet) → ((i : ℕ) (b : BeliefSet) → slice_get s i ≡ Some b → Q i b) → (v : ℕ) → ((r : Read) × IsVariable m v r × BelievesIn s r) → has σ v ≡ true
    from s all v (r, var, (b, is_b, believes)) =
        let both = ((all r.context b is_b).1 v).1 (r, var, refl, believes) in
        (and_parts _ _ (sym (has-common σ (variables_of m r.context) v) ∙ both)).0

    made : (s : List BeliefSet) → length s ≡ length m.contexts → ((i : ℕ) (b : BeliefSet) → slice_get s i ≡ Some b → Q i b) → IsProjectedEquilibrium m r1 r2 σ
    made s long all = let projection : IsProjection m s σ = (λ v. (to s long all v, from s all v)) in record {
      state = s;
      balanced = record {
        one_each = long;
        acting = own_rules m (acting_at m σ r1 r2);
        of_rules = own-known m (acting_at m σ r1 r2);
        acting_is = λ k b is. subst (λ (v : Bool). (v ≡ true) ↔ ((IsTrue (has r1 k) × Applies b s) ⊎ IsTrue (has r2 k))) (sym (own-same m (acting_at m σ r1 r2) k b is)) (acting_at-is m r1 r2 s σ long projection k b is);
        accepted = λ i b is. (let (c, is_c, accepts) = (all i b is).0 in (c, is_c, subst (λ (hs : List Formula). Accepts (with_heads c.kb hs) b) (sym (own-heads m (acting_at m σ r1 r2) i)) accepts));
      };
      projection = projection;
    }
