-- Views of contexts that are asked for no belief.
use Rattle.std.proofs.Common.{◌≡◌, ℕ, map, length, List, [], ◌∷◌, sym, ◌∙◌, subst, refl, true, true≢false, arith}
use Rattle.std.proofs.lemmas.Option.{slice_get_within}
use Rattle.mcs_sets.specs.Orders.{StateBefore}
use Rattle.mcs_sets.proofs.SetLemmas.{has-empty}
use Rattle.mcs_base.specs.Listings.{IsListing}
use Rattle.mcs_system.specs.Plain.{Name, Formula, Classical}
use Rattle.mcs_system.specs.Views.{IsAcceptedView}
use Rattle.mcs_cnf.specs.Classical.{IsAcceptedClassical}
use Rattle.mcs_cnf.proofs.EntailmentLemmas.{one_view}

-- ---- where no belief is asked for
pub no_beliefs : {A : Type 0} (seen : A → Formula) (xs : List A) → length xs ≡ 0 → map seen xs ≡ []
no_beliefs seen [] none = refl
no_beliefs seen (x ∷ xs) none = absurd (omega (arith, none))

-- the one view of a classical context has none
pub view_of_none : (fs : List Formula) (views : List ℕ) → views ≡ 0 ∷ [] → IsListing (IsAcceptedView (Classical fs) []) StateBefore views
view_of_none fs views is =
    subst (IsListing (IsAcceptedView (Classical fs) []) StateBefore) (sym is) (one_view fs [] 0
    (λ k. (λ h. absurd (true≢false (sym h ∙ has-empty k)), λ (p, at, believed). absurd (omega (arith, slice_get_within [] k p at)))))

-- which no entailment has to show
pub none_shown : (names : List Name) (fs : List Formula) (views : List ℕ) → views ≡ 0 ∷ [] → IsAcceptedClassical names fs [] views []
none_shown names fs views is = record {
  view = 0;
  only = is;
  shown = record {
    entailments = tt;
    exactly = λ k. (λ h. absurd (true≢false (sym h ∙ has-empty k)), λ h. absurd (omega (arith, slice_get_within [] k true h)));
  };
}
