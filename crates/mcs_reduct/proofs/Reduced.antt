-- The reduct of a system by a belief state: its contexts, its heads, and what it accepts. The state is an equilibrium of the system exactly where it is one of the reduct by itself.
use Rattle.std.proofs.Common.{◌≡◌, ℕ, ◌+◌, zero, suc, true, false, List, [], ◌∷◌, length, map, Some, ◌⊎◌, inl, inr, ◌↔◌, refl, sym, ap, ◌∙◌, subst, true≢false, slice_get, IsTrue}
use Rattle.std.proofs.lemmas.Bool.{lt-ltb, ltb-true, ne_eqb}
use Rattle.std.proofs.lemmas.List.{length-map}
use Rattle.std.proofs.lemmas.Option.{slice_get_within}
use Rattle.mcs_sets.specs.Sets.{has, single, such_that, Within}
use Rattle.mcs_sets.proofs.SetLemmas.{has-empty, has-single}
use Rattle.mcs_base.proofs.Lists.{slice_get-map_some, slice_get_below, map_slice_get}
use Rattle.mcs_system.specs.Plain.{Formula, Kb, Program, Context, Bridge, System}
use Rattle.mcs_system.specs.Logic.{BeliefSet, Atoms, Accepts, with_heads}
use Rattle.mcs_system.specs.Systems.{all_rules, heads_from, heads_into, AcceptsWith, Applies, IsEquilibrium}
use Rattle.mcs_system.proofs.MarkLemmas.{has-all_rules}
use Rattle.mcs_reduct.specs.Reducts.{names_believed, kb_reduct, reduced_contexts, positive_part, reduced_system, AreUnblocked, IsReductEquilibrium}
use Rattle.mcs_reduct.proofs.Programs.{answer_again}

-- ---- its contexts
abbrev pub context_reduct : Context → BeliefSet → Context
context_reduct c b = record c { kb = kb_reduct (names_believed b) c.kb }

pub reduced_there : (cs : List Context) (s : List BeliefSet) (i : ℕ) (c : Context) (b : BeliefSet) → slice_get cs i ≡ Some c → slice_get s i ≡ Some b → slice_get (reduced_contexts cs s) i ≡ Some (context_reduct c b)
reduced_there [] s i c b is own = cc
reduced_there (d ∷ cs) [] i c b is own = cc
reduced_there (d ∷ cs) (e ∷ s) zero c b is own = let same : d ≡ c = cc in let same' : e ≡ b = cc in ap (λ (x : Context). Some (context_reduct x e)) same ∙ ap (λ (y : BeliefSet). Some (context_reduct c y)) same'
reduced_there (d ∷ cs) (e ∷ s) (suc i) c b is own = reduced_there cs s i c b is own

pub there_reduced : (cs : List Context) (s : List BeliefSet) (i : ℕ) (d : Context) (b : BeliefSet) → slice_get (reduced_contexts cs s) i ≡ Some d → slice_get s i ≡ Some b
    → (c : Context) × (slice_get cs i ≡ Some c) × (context_reduct c b ≡ d)
there_reduced [] s i d b is own = cc
there_reduced (c ∷ cs) [] i d b is own = cc
there_reduced (c ∷ cs) (e ∷ s) zero d b is own = (c, refl, (let same : e ≡ b = cc in let told : context_reduct c e ≡ d = cc in ap (context_reduct c) (sym same) ∙ told))
there_reduced (c ∷ cs) (e ∷ s) (suc i) d b is own = there_reduced cs s i d b is own

pub reduced_long : (cs : List Context) (s : List BeliefSet) → length (reduced_contexts cs s) ≡ length cs
reduced_long [] s = refl
reduced_long (c ∷ cs) [] = refl
reduced_long (c ∷ cs) (b ∷ s) = ap suc (reduced_long cs s)

-- ---- its rules, but for negative reads, and their heads are those of the system
pub same_rules : (m : System) (s : List BeliefSet) → all_rules (reduced_system m s) ≡ all_rules m
same_rules m s = ap (λ (n : ℕ). such_that n (λ r. true)) (length-map m.bridges positive_part)

same_heads : (k : ℕ) (bs : List Bridge) (i x : ℕ) → heads_from k (map positive_part bs) i x ≡ heads_from k bs i x
same_heads k [] i x = refl
same_heads k (b ∷ bs) i x = rw (same_heads (k + 1) bs i x) refl

pub heads_kept : (m : System) (s : List BeliefSet) (i x : ℕ) → heads_into (reduced_system m s) i x ≡ heads_into m i x
heads_kept m s i x = same_heads 0 m.bridges i x

pub rule_known : (m : System) (k : ℕ) (b : Bridge) → slice_get m.bridges k ≡ Some b → IsTrue (has (all_rules m) k)
rule_known m k b is = has-all_rules m k ∙ lt-ltb k (length m.bridges) (slice_get_within m.bridges k b is)

pub rule_at : (m : System) (x k : ℕ) → Within x (all_rules m) → IsTrue (has x k) → (b : Bridge) × (slice_get m.bridges k ≡ Some b)
rule_at m x k within member = slice_get_below m.bridges k (ltb-true k (length m.bridges) (sym (has-all_rules m k) ∙ within k member))

-- ---- what it accepts
-- what is accepted by a context of the reduct, as of the context itself
pub reduct_accepts : (m : System) (s : List BeliefSet) (i x : ℕ) (c : Context) (b e : BeliefSet) → slice_get m.contexts i ≡ Some c → slice_get s i ≡ Some b
    → AcceptsWith (reduced_system m s) i x e ↔ Accepts (with_heads (kb_reduct (names_believed b) c.kb) (heads_into m i x)) e
reduct_accepts m s i x c b e is own = (
  λ (d, is', accepts). (let there = reduced_there m.contexts s i c b is own in let same : context_reduct c b ≡ d = cc in
      subst (λ (hs : List Formula). Accepts (with_heads (kb_reduct (names_believed b) c.kb) hs) e) (heads_kept m s i x)
      (subst (λ (y : Context). Accepts (with_heads y.kb (heads_into (reduced_system m s) i x)) e) (sym same) accepts)),
  λ accepts. (
    context_reduct c b,
    reduced_there m.contexts s i c b is own,
    subst (λ (hs : List Formula). Accepts (with_heads (kb_reduct (names_believed b) c.kb) hs) e) (sym (heads_kept m s i x)) accepts,
  ),
)

-- by itself, a belief set is accepted where it is without the reduct
pub accepted_again : (kb : Kb) (hs : List Formula) (b : BeliefSet) → Accepts (with_heads (kb_reduct (names_believed b) kb) hs) b ↔ Accepts (with_heads kb hs) b
accepted_again (Program rules) hs (Atoms a) = answer_again a rules hs
accepted_again kb hs b = (λ h. h, λ h. h)

-- the same of a context of a system
pub accepts_again : (m : System) (s : List BeliefSet) (i x : ℕ) (b : BeliefSet) → slice_get s i ≡ Some b → AcceptsWith (reduced_system m s) i x b ↔ AcceptsWith m i x b
accepts_again m s i x b own = (
  λ h. (let (c, is, told) = there_reduced m.contexts s i h.0 b h.1 own in (c, is, (accepted_again c.kb (heads_into m i x) b).0 ((reduct_accepts m s i x c b b is own).0 h))),
  λ h. (reduct_accepts m s i x h.0 b b h.1 own).1 ((accepted_again h.0.kb (heads_into m i x) b).1 h.2),
)

-- ---- few rules
-- the empty set has no rule, and a set of one has no other
pub no_rule : (P : Type 0) (k : ℕ) → IsTrue (has 0 k) → P
no_rule P k h = absurd (true≢false (sym h ∙ has-empty k))

pub no_other : (i k : ℕ) → ¬ (k ≡ i) → has (single i) k ≡ false
no_other i k differ = has-single i k ∙ ne_eqb k i differ

-- ---- equilibria
pub equilibrium_of_reduct : (m : System) (s : List BeliefSet) → IsReductEquilibrium m s s → IsEquilibrium m (all_rules m) 0 s
equilibrium_of_reduct m s e = record {
  one_each = e.balanced.one_each ∙ reduced_long m.contexts s;
  acting = e.balanced.acting;
  of_rules = subst (Within e.balanced.acting) (same_rules m s) e.balanced.of_rules;
  acting_is = λ k b is. (to k b is, from k b is);
  accepted = λ i b is. (accepts_again m s i e.balanced.acting b is).0 (e.balanced.accepted i b is);
}
  where
    there : (k : ℕ) (b : Bridge) → slice_get m.bridges k ≡ Some b → slice_get (map positive_part m.bridges) k ≡ Some (positive_part b)
    there k b is = slice_get-map_some positive_part m.bridges k b is

    to : (k : ℕ) (b : Bridge) → slice_get m.bridges k ≡ Some b → IsTrue (has e.balanced.acting k) → (IsTrue (has (all_rules m) k) × Applies b s) ⊎ IsTrue (has 0 k)
    to k b is acts = elim ((e.balanced.acting_is k (positive_part b) (there k b is)).0 acts) [
      | inl both ↦ inl (rule_known m k b is, record { all_believed = both.1.all_believed; none_believed = (e.unblocked.exactly k b is).0 both.0 })
      | inr none ↦ inr none
    ]

    from : (k : ℕ) (b : Bridge) → slice_get m.bridges k ≡ Some b → (IsTrue (has (all_rules m) k) × Applies b s) ⊎ IsTrue (has 0 k) → IsTrue (has e.balanced.acting k)
    from k b is (inl both) = (e.balanced.acting_is k (positive_part b) (there k b is)).1 (inl ((e.unblocked.exactly k b is).1 both.1.none_believed, record { all_believed = both.1.all_believed; none_believed = tt }))
    from k b is (inr none) = no_rule _ k none

pub reduct_of_equilibrium : (m : System) (s : List BeliefSet) (rules : ℕ) → AreUnblocked m s rules → IsEquilibrium m (all_rules m) 0 s → IsReductEquilibrium m s s
reduct_of_equilibrium m s rules unblocked e = record {
  rules = rules;
  unblocked = unblocked;
  balanced = record {
    one_each = e.one_each ∙ sym (reduced_long m.contexts s);
    acting = e.acting;
    of_rules = subst (Within e.acting) (sym (same_rules m s)) e.of_rules;
    acting_is = λ k d is. (let (b, there, same) = map_slice_get positive_part m.bridges k d is in
        subst (λ (d : Bridge). IsTrue (has e.acting k) ↔ ((IsTrue (has rules k) × Applies d s) ⊎ IsTrue (has 0 k))) same (to k b there, from k b there));
    accepted = λ i b is. (accepts_again m s i e.acting b is).1 (e.accepted i b is);
  };
}
  where
    to : (k : ℕ) (b : Bridge) → slice_get m.bridges k ≡ Some b → IsTrue (has e.acting k) → (IsTrue (has rules k) × Applies (positive_part b) s) ⊎ IsTrue (has 0 k)
    to k b is acts = elim ((e.acting_is k b is).0 acts) [
      | inl both ↦ inl ((unblocked.exactly k b is).1 both.1.none_believed, record { all_believed = both.1.all_believed; none_believed = tt })
      | inr none ↦ inr none
    ]

    from : (k : ℕ) (b : Bridge) → slice_get m.bridges k ≡ Some b → (IsTrue (has rules k) × Applies (positive_part b) s) ⊎ IsTrue (has 0 k) → IsTrue (has e.acting k)
    from k b is (inl both) = (e.acting_is k b is).1 (inl (rule_known m k b is, record { all_believed = both.1.all_believed; none_believed = (unblocked.exactly k b is).0 both.0 }))
    from k b is (inr none) = no_rule _ k none
