-- That listings exist.
use Rattle.std.proofs.Common.{◌≡◌, ℕ, ◌^◌, ◌<◌, Bool, true, false, eqb, List, [], ◌∷◌, ◌++◌, length, Some, slice_get, refl, sym, ◌∙◌, subst, inl, inr, ◌⊎◌, ◌↔◌, arith, IsTrue, true≢false}
use Rattle.std.proofs.lemmas.Bool.Decides.{nat_tests}
use Rattle.std.specs.List.{AllByRecursion}
use Rattle.mcs_sets.specs.Sets.{has, common}
use Rattle.mcs_sets.specs.Orders.{StateBefore}
use Rattle.mcs_sets.proofs.SetLemmas.{same_set}
use Rattle.mcs_base.specs.Listings.{IsListing, IsAmong}
use Rattle.mcs_base.proofs.ListingLemmas.{states_of_test, IsListing-same, all_among}
use Rattle.mcs_system.specs.Plain.{Formula, Kb, Classical, Context, System}
use Rattle.mcs_system.specs.Logic.{IsClassical}
use Rattle.mcs_system.specs.Systems.{variables, variables_of, all_rules, heads_into, acting_at, Follows, IsProjectedEquilibrium, IsAcceptedPart, IsConsistent}
use Rattle.mcs_laws.specs.Laws.{ClassicalStatesHaveAListing, ConsistencyIsListed}
use Rattle.mcs_base.proofs.Lists.{slice_get_below}
use Rattle.mcs_base.proofs.Among.{among_get}
use Rattle.mcs_laws.proofs.Classical.{classical_part, following, has-following}
use Rattle.mcs_laws.proofs.Projections.{parts_of, from_parts}
use Rattle.mcs_base.proofs.Booleans.{test_of, test_of-tells, cases_all_below}
use Rattle.std.specs.Cmp.{both_ways}
use Rattle.mcs_system.proofs.ContextSets.{states_known}
use Rattle.mcs_sets.proofs.Lattice.{below_from_within}

unfoldable pub DecidesParts : System → Type 0
DecidesParts m = (i x τ : ℕ) → i < length m.contexts → IsAcceptedPart m i x τ ⊎ (¬ IsAcceptedPart m i x τ)

-- each context accepts its part of σ
Fits : System → ℕ → ℕ → ℕ → Type 0
Fits m r1 r2 σ = (i : ℕ) → i < length m.contexts → IsAcceptedPart m i (acting_at m σ r1 r2) (common σ (variables_of m i))

fits : (m : System) → DecidesParts m → (r1 r2 σ : ℕ) → Fits m r1 r2 σ ⊎ (¬ Fits m r1 r2 σ)
unfolding DecidesParts Fits
fits m decides r1 r2 σ = cases_all_below (λ i. IsAcceptedPart m i (acting_at m σ r1 r2) (common σ (variables_of m i))) (length m.contexts) (λ i less. decides i (acting_at m σ r1 r2) (common σ (variables_of m i)) less)

-- where each question is decided, the projected equilibria have a listing
pub states_listed : (m : System) (r1 r2 : ℕ) → DecidesParts m → (xs : List ℕ) × IsListing (IsProjectedEquilibrium m r1 r2) StateBefore xs
unfolding Fits
states_listed m r1 r2 decides =
    let (xs, listing) = states_of_test (length (variables m)) (λ σ. test_of (fits m decides r1 r2 σ)) in
    (xs, IsListing-same StateBefore _ (IsProjectedEquilibrium m r1 r2) xs (λ σ. (to σ, from σ)) listing)
  where
    to : (σ : ℕ) → (σ < 2 ^ length (variables m)) × IsTrue (test_of (fits m decides r1 r2 σ)) → IsProjectedEquilibrium m r1 r2 σ
    to σ (low, passes) = from_parts m r1 r2 σ (states_known m σ low) ((test_of-tells (fits m decides r1 r2 σ)).0 passes)

    from : (σ : ℕ) → IsProjectedEquilibrium m r1 r2 σ → (σ < 2 ^ length (variables m)) × IsTrue (test_of (fits m decides r1 r2 σ))
    from σ h = let parts = parts_of m r1 r2 σ h in (below_from_within σ (length (variables m)) parts.0, (test_of-tells (fits m decides r1 r2 σ)).1 parts.1)

-- ---- classical contexts
classical_formulas : (k : Kb) → IsClassical k → (fs : List Formula) × (k ≡ Classical fs)
classical_formulas (Classical fs) h = (fs, refl)
classical_formulas kb h = absurd h

pub classical_decided : (m : System) → AllByRecursion (λ (c : Context). IsClassical c.kb) m.contexts → DecidesParts m
unfolding DecidesParts
classical_decided m classical i x τ less =
    let (c, is) = slice_get_below m.contexts i less in
    let (fs, kb) = classical_formulas c.kb (all_among (λ (c : Context). IsClassical c.kb) m.contexts c classical (among_get c m.contexts i is)) in
    at c fs is kb (eqb τ (following m i (fs ++ heads_into m i x))) refl
  where
    at : (c : Context) (fs : List Formula) → slice_get m.contexts i ≡ Some c → c.kb ≡ Classical fs → (b : Bool) → eqb τ (following m i (fs ++ heads_into m i x)) ≡ b → IsAcceptedPart m i x τ ⊎ (¬ IsAcceptedPart m i x τ)
    at c fs is kb true e =
        let same : following m i (fs ++ heads_into m i x) ≡ τ = grind (arith, nat_tests) in
        inl ((classical_part m i x τ c fs is kb).1 (λ v. subst (λ (t : ℕ). IsTrue (has t v) ↔ Follows m i (fs ++ heads_into m i x) v) same (has-following m i (fs ++ heads_into m i x) v)))
    at c fs is kb false e = inr (λ h.
        let all = (classical_part m i x τ c fs is kb).0 h in
        let same : τ ≡ following m i (fs ++ heads_into m i x) = same_set τ _ (λ v. both_ways (has τ v) (has (following m i (fs ++ heads_into m i x)) v)
        (λ a. (has-following m i (fs ++ heads_into m i x) v).1 ((all v).0 a)) (λ b. (all v).1 ((has-following m i (fs ++ heads_into m i x) v).0 b))) in
        true≢false (sym (grind (arith, nat_tests)) ∙ e))

pub classical_states_listed : ClassicalStatesHaveAListing
classical_states_listed m r1 r2 classical = states_listed m r1 r2 (classical_decided m classical)

-- ---- the verdict
pub consistency_is_listed : ConsistencyIsListed
consistency_is_listed m xs listing = (λ c. some xs c.equilibrium ((listing.exactly c.equilibrium).1 c.balanced), λ many. first xs listing many)
  where
    some : (xs : List ℕ) (σ : ℕ) → IsAmong σ xs → 0 < length xs
    some [] σ h = absurd h
    some (x ∷ xs) σ h = omega arith

    first : (xs : List ℕ) → IsListing (IsProjectedEquilibrium m (all_rules m) 0) StateBefore xs → 0 < length xs → IsConsistent m
    first [] listing many = absurd (omega arith)
    first (x ∷ xs) listing many = record { equilibrium = x; balanced = (listing.exactly x).0 (inl refl) }
