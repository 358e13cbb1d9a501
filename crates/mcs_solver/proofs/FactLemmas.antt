-- A default theory without defaults that is asked for no belief has one view, as a classical context has.
use Rattle.std.proofs.Common.{◌≡◌, Bool, true, false, Option, None, ◌∙◌, ◌++◌, ◌↔◌, ℕ, nat_eq, map, length, List, [], ◌∷◌, Some, slice_get, IsTrue, sym, ap, subst, refl, true≢false, arith}
use Rattle.std.proofs.lemmas.Bool.Decides.{nat_tests}
use Rattle.std.proofs.lemmas.Grind.{common_steps}
use Rattle.std.proofs.lemmas.List.{map-append}
use Rattle.std.proofs.lemmas.Option.{slice_get_within}
use Rattle.std.specs.List.{AllByRecursion}
use Rattle.mcs_sets.specs.Orders.{StateBefore}
use Rattle.mcs_base.specs.Listings.{IsListing}
use Rattle.mcs_base.proofs.Each.{all_from_among, all_among}
use Rattle.mcs_base.proofs.ListingLemmas.{IsListing-same}
use Rattle.mcs_system.specs.Plain.{Name, Formula, Item, Fact, Rule, Classical, DefaultTheory}
use Rattle.mcs_system.specs.Logic.{BeliefSet, Theory, Atoms, Accepts, Entails, Owes, IsClosed, IsExtension}
use Rattle.mcs_system.specs.Views.{Shows, IsAcceptedView}
use Rattle.mcs_system.proofs.Consequence.{member_follows}
use Rattle.mcs_evidence.specs.Defaults.{facts_of, defaults_of}
use Rattle.mcs_asking.specs.Certificates.{Certificate}
use Rattle.mcs_asking.specs.declared.certificate.AnswerCert.{AnswerCert}
use Rattle.mcs_keeping.specs.Certified.{IsCertified}

-- ---- theories without defaults
pub none_there : {A B : Type 0} (f : A → B) (xs : List A) (ys : List B) (n : ℕ) → n ≡ length xs → map f xs ≡ ys → IsTrue (nat_eq n 0) ↔ (ys ≡ [])
none_there f [] ys n long is = (λ h. sym is, λ h. ap (λ (k : ℕ). nat_eq k 0) long)
none_there f (x ∷ xs) ys n long is = (λ h. (let none : n ≡ 0 = grind (arith, nat_tests, common_steps, h) in absurd (omega (arith, none, long))), λ h. cc)

only_facts : (items : List Item) → defaults_of items ≡ [] → items ≡ map Fact (facts_of items)
only_facts [] none = refl
only_facts (Fact f ∷ items) none = ap (λ (is : List Item). Fact f ∷ is) (only_facts items none)
only_facts (Rule d ∷ items) none = cc

-- they have their facts as the one extension
owed : (f e fs : List Formula) → AllByRecursion (Entails f) fs → IsClosed (map Fact fs) f e
owed f e [] follow = tt
owed f e (p ∷ fs) follow = (follow.0, owed f e fs follow.1)

owes : (f e fs : List Formula) → IsClosed (map Fact fs) f e → AllByRecursion (Entails f) fs
owes f e [] closed = tt
owes f e (p ∷ fs) closed = (closed.0, owes f e fs closed.1)

facts_accepted : (fs : List Formula) → Accepts (DefaultTheory (map Fact fs)) (Theory fs)
facts_accepted fs = record {
  closed = owed fs fs fs (all_from_among (Entails fs) fs (λ p among. member_follows fs p among));
  least = λ f closed. owes f fs fs closed;
}

-- so asked for no belief they have the view of a classical context
shows_none : (b c : BeliefSet) (places : ℕ) → Shows b [] places → Shows c [] places
shows_none b c places shows k = (
  λ h. (let (p, at, believed) = (shows k).0 h in absurd (omega (arith, slice_get_within [] k p at))),
  λ (p, at, believed). absurd (omega (arith, slice_get_within [] k p at)),
)

facts_view : (fs : List Formula) (places : ℕ) → IsAcceptedView (Classical fs) [] places ↔ IsAcceptedView (DefaultTheory (map Fact fs)) [] places
facts_view fs places = (
  λ view. record { belief_set = Theory fs; accepted = facts_accepted fs; shown = shows_none view.belief_set (Theory fs) places view.shown },
  λ view. record { belief_set = Theory fs; accepted = λ a. refl; shown = shows_none view.belief_set (Theory fs) places view.shown },
)

pub views_of_facts : (items : List Item) (heads : List Formula) (views : List ℕ) → defaults_of items ≡ []
    → ((fs : List Formula) → IsListing (IsAcceptedView (Classical fs) []) StateBefore views)
    → IsListing (IsAcceptedView (DefaultTheory (items ++ map Fact heads)) []) StateBefore views
views_of_facts items heads views none all =
    let fs = facts_of items ++ heads in
    let same : map Fact fs ≡ items ++ map Fact heads = map-append Fact (facts_of items) heads ∙ ap (λ (is : List Item). is ++ map Fact heads) (sym (only_facts items none)) in
    subst (λ (is : List Item). IsListing (IsAcceptedView (DefaultTheory is) []) StateBefore views) same
    (IsListing-same StateBefore (IsAcceptedView (Classical fs) []) (IsAcceptedView (DefaultTheory (map Fact fs)) []) views (facts_view fs) (all fs))

-- where no certificate is wanted, none is there, whatever it would have to show
pub none_wanted : (wanted : Bool) (P Q : Certificate → Type 0) (cert : Option AnswerCert) → wanted ≡ false → IsCertified false P cert → IsCertified wanted Q cert
none_wanted wanted P Q None is shown = is
none_wanted wanted P Q (Some cert) is shown = absurd (true≢false (sym shown.0))
