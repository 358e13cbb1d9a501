-- What classical contexts accept.
use Rattle.std.proofs.Common.{◌≡◌, ℕ, Bool, true, false, ◌&&◌, ltb, eqb, List, ◌++◌, length, Option, Some, None, slice_get, refl, sym, ap, ◌∙◌, subst, ◌↔◌, arith, IsTrue, true≢false}
use Rattle.std.proofs.lemmas.Bool.Decides.{nat_tests}
use Rattle.std.proofs.lemmas.Bool.{and_parts}
use Rattle.mcs_sets.specs.Sets.{has, such_that}
use Rattle.mcs_sets.proofs.SetLemmas.{has-such_that}
use Rattle.mcs_system.specs.Plain.{Formula, Kb, Classical, Context, Read, System}
use Rattle.mcs_system.specs.Logic.{BeliefSet, Theory, Atoms, Believes, SameModels, Accepts, Entails, with_heads}
use Rattle.mcs_system.specs.Systems.{variables, heads_into, IsVariable, Follows, AcceptsWith, IsAcceptedPart}
use Rattle.mcs_system.proofs.Consequence.{cases_entails}
use Rattle.std.proofs.lemmas.Option.{slice_get_within}
use Rattle.mcs_base.proofs.Booleans.{test_of, test_of-tells}

believes_same : (e fs : List Formula) (p : Formula) → SameModels e fs → Entails e p ↔ Entails fs p
believes_same e fs p same = (λ h a holds. h a (same a ∙ holds), λ h a holds. h a (sym (same a) ∙ holds))

-- a belief set that the context accepts, as far as entailment shows it
theory_of : (fs : List Formula) (b : BeliefSet) → Accepts (Classical fs) b → (p : Formula) → Believes b p ↔ Entails fs p
theory_of fs (Theory e) accepts p = believes_same e fs p accepts
theory_of fs (Atoms names) accepts p = absurd accepts

pub classical_part : (m : System) (i x τ : ℕ) (c : Context) (fs : List Formula) → slice_get m.contexts i ≡ Some c → c.kb ≡ Classical fs
    → IsAcceptedPart m i x τ ↔ ((v : ℕ) → IsTrue (has τ v) ↔ Follows m i (fs ++ heads_into m i x) v)
classical_part m i x τ c fs is kb = (to, from)
  where
    accepts : (b : BeliefSet) → AcceptsWith m i x b → (p : Formula) → Believes b p ↔ Entails (fs ++ heads_into m i x) p
    accepts b (d, there, h) = let same : d ≡ c = cc in
        theory_of (fs ++ heads_into m i x) b (subst (λ (k : Kb). Accepts (with_heads k (heads_into m i x)) b) (ap (λ (e : Context). e.kb) same ∙ kb) h)

    to : IsAcceptedPart m i x τ → (v : ℕ) → IsTrue (has τ v) ↔ Follows m i (fs ++ heads_into m i x) v
    to h v = (
      λ member. let (r, var, own, believed) = (h.part v).0 member in (r, var, own, (accepts h.belief h.accepted r.belief).0 believed),
      λ (r, var, own, follows). (h.part v).1 (r, var, own, (accepts h.belief h.accepted r.belief).1 follows),
    )

    from : ((v : ℕ) → IsTrue (has τ v) ↔ Follows m i (fs ++ heads_into m i x) v) → IsAcceptedPart m i x τ
    from h = record {
      belief = Theory (fs ++ heads_into m i x);
      accepted = (c, is, subst (λ (k : Kb). Accepts (with_heads k (heads_into m i x)) (Theory (fs ++ heads_into m i x))) (sym kb) (λ a. refl));
      part = h;
    }

-- ---- whether a variable follows is decided
follows_test : ℕ → List Formula → Option Read → Bool
follows_test i fs None = false
follows_test i fs (Some r) = eqb r.context i && test_of (cases_entails fs r.belief)

-- the variables of the context that follow
pub following : System → ℕ → List Formula → ℕ
following m i fs = such_that (length (variables m)) (λ v. follows_test i fs (slice_get (variables m) v))

pub has-following : (m : System) (i : ℕ) (fs : List Formula) (v : ℕ) → IsTrue (has (following m i fs) v) ↔ Follows m i fs v
unfolding following follows_test
has-following m i fs v = (
  λ member. to (slice_get (variables m) v) refl (and_parts _ _ (sym (has-such_that (length (variables m)) (λ w. follows_test i fs (slice_get (variables m) w)) v) ∙ member)).1,
  λ (r, var, own, follows). has-such_that (length (variables m)) (λ w. follows_test i fs (slice_get (variables m) w)) v ∙ from r var own follows,
)
  where
    to : (o : Option Read) → slice_get (variables m) v ≡ o → follows_test i fs o ≡ true → Follows m i fs v
    to None e t = absurd (true≢false (sym t))
    to (Some r) e t = let parts = and_parts (eqb r.context i) (test_of (cases_entails fs r.belief)) t in (r, e, grind (arith, nat_tests), (test_of-tells (cases_entails fs r.belief)).0 parts.1)

    from : (r : Read) → IsVariable m v r → r.context ≡ i → Entails fs r.belief → (ltb v (length (variables m)) && follows_test i fs (slice_get (variables m) v)) ≡ true
    from r var own follows =
        let less = slice_get_within (variables m) v r var in
        let e : ltb v (length (variables m)) ≡ true = grind (arith, nat_tests) in
        let e' : eqb r.context i ≡ true = grind (arith, nat_tests) in
        rw (e, var) (rw e' ((test_of-tells (cases_entails fs r.belief)).1 follows))
