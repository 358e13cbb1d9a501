-- How the search for answer sets that are listed goes on: sets without support from outside, and answer sets.
use Rattle.std.proofs.Common.{◌≡◌, ℕ, ◌<◌, zero, suc, true, false, not, ◌&&◌, List, [], ◌∷◌, ◌++◌, inl, inr, map, length, insert, refl, sym, ap, ◌∙◌, subst, true≢false}
use Rattle.std.proofs.lemmas.Bool.{and_parts, and_from, or_cases, or_left, not_from_false}
use Rattle.std.proofs.lemmas.List.Folds.{list_all-append}
use Rattle.std.specs.List.{AllByRecursion}
use Rattle.mcs_sets.specs.Sets.{has, minus}
use Rattle.mcs_sets.specs.Orders.{StateBefore}
use Rattle.mcs_sets.proofs.SetLemmas.{has-minus}
use Rattle.mcs_sets.proofs.Lattice.{in_minus}
use Rattle.mcs_base.specs.Listings.{IsAmong, IsAscending, IsListing}
use Rattle.mcs_base.proofs.Each.{all_among, all_weaker}
use Rattle.mcs_base.proofs.Among.{cases_among}
use Rattle.mcs_system.specs.Plain.{Name, Formula, ProgramRule, Program}
use Rattle.mcs_system.specs.Faults.{has_twins}
use Rattle.mcs_system.specs.Logic.{same_name, is_in, holds, holds_all, true_names, BeliefSet, Theory, Atoms, Accepts, IsAnswerSet}
use Rattle.mcs_system.specs.Views.{Shows, IsAcceptedView}
use Rattle.mcs_system.proofs.Sameness.{same_name-is, same_name-itself}
use Rattle.mcs_cnf.specs.Entailments.{IsModelAt}
use Rattle.mcs_evidence.specs.Programs.{rule_formula, other_formula, smaller_formulas, AreAtomsOf}
use Rattle.mcs_evidence.specs.Supports.{IsBased, support_formula}
use Rattle.mcs_evidence.proofs.Models.{true_names-known, rules-hold, answer_set-holds, shows-below, own_state, smaller_places, sides-hold}
use Rattle.mcs_evidence.proofs.Supports.{has_support, answer_set_supports, left_unsupported, supported_models}
use Rattle.mcs_program.specs.declared.listing.Listing.{Listing}
use Rattle.mcs_program.specs.Searches.{IsViewPlaced}
use Rattle.mcs_program.specs.Listings.{place_formula, first_formulas, left_formulas, left_of, models_left, IsPartListing, IsSupported}
use Rattle.mcs_program.proofs.SearchLemmas.{sides_value, sides_more, others_more, other_view, meant_more, models_less, ascending_insert}
use Rattle.mcs_program.proofs.PlaceLemmas.{place_at}

-- ---- what is smaller than a model leaves a set without support
pub left_unfounded : (names : List Name) (rules : List ProgramRule) (model less : ℕ) → has_twins names ≡ false → IsModelAt names (smaller_formulas names rules model) less
    → holds (true_names 0 names model) (place_formula rules names (minus model less)) ≡ false
left_unfounded names rules model less single below =
    let (smaller, sat) = smaller_places names rules model less below.formulas in
    left_unsupported rules (true_names 0 names (minus model less)) (true_names 0 names model) (true_names 0 names less) smaller sat left apart
  where
    left : (n : Name) → is_in n (true_names 0 names model) ≡ true → is_in n (true_names 0 names less) ≡ false → is_in n (true_names 0 names (minus model less)) ≡ true
    left n here gone =
        let (k, place) = place_at names single n (true_names-known n 0 names model here) in
        place.tells (minus model less) ∙ has-minus model less k ∙ and_from (has model k) (not (has less k)) (sym (place.tells model) ∙ here) (not_from_false (has less k) (sym (place.tells less) ∙ gone))

    apart : (n : Name) → is_in n (true_names 0 names (minus model less)) ≡ true → is_in n (true_names 0 names less) ≡ false
    apart n here =
        let (k, place) = place_at names single n (true_names-known n 0 names (minus model less) here) in
        place.tells less ∙ (in_minus model less k (sym (place.tells (minus model less)) ∙ here)).1

-- ---- without loops a model is an answer set
pub tight_answer_set : (names : List Name) (rules : List ProgramRule) (model : ℕ) → ((n : Name) → is_in n names ≡ true → IsBased rules n) → holds_all (true_names 0 names model) (map rule_formula rules) ≡ true
    → ((n : Name) → is_in n (true_names 0 names model) ≡ true → holds (true_names 0 names model) (support_formula rules (n ∷ [])) ≡ true) → IsAnswerSet rules (true_names 0 names model)
tight_answer_set names rules model based h own = supported_models rules (true_names 0 names model) (sym (rules-hold (true_names 0 names model) rules) ∙ h) (λ n here. (
  based n (true_names-known n 0 names model here),
  has_support rules (n ∷ []) (true_names 0 names model) n (own n here) (or_left (same_name n n) false (same_name-itself n)) here,
))

-- ---- what is known at first
pub own_hold : (a : List Name) (rules : List ProgramRule) (names : List Name) → holds_all a (map (λ n. support_formula rules (n ∷ [])) names) ≡ true → (n : Name) → is_in n names ≡ true → holds a (support_formula rules (n ∷ [])) ≡ true
own_hold a rules [] h n there = absurd (true≢false (sym there))
own_hold a rules (m ∷ names) h n there =
    let (here, rest) = and_parts (holds a (support_formula rules (m ∷ []))) (holds_all a (map (λ n. support_formula rules (n ∷ [])) names)) h in
    elim (or_cases (same_name n m) (is_in n names) there) [
      | inl same ↦ ap (λ (x : Name). holds a (support_formula rules (x ∷ []))) (same_name-is n m same) ∙ here
      | inr later ↦ own_hold a rules names rest n later
    ]

pub first_parts : (a : List Name) (names : List Name) (rules : List ProgramRule) → holds_all a (first_formulas names rules) ≡ true
    → (holds_all a (map rule_formula rules) ≡ true) × ((n : Name) → is_in n names ≡ true → holds a (support_formula rules (n ∷ [])) ≡ true)
first_parts a names rules h =
    let (rules_hold, own) = and_parts (holds_all a (map rule_formula rules)) (holds_all a (map (λ n. support_formula rules (n ∷ [])) names)) (sym (list_all-append (holds a) (map rule_formula rules) (map (λ n. support_formula rules (n ∷ [])) names)) ∙ h) in
    (rules_hold, own_hold a rules names own)

pub first_hold : (a names : List Name) (rules : List ProgramRule) → IsAnswerSet rules a → holds_all a (first_formulas names rules) ≡ true
first_hold a names rules is =
    list_all-append (holds a) (map rule_formula rules) (map (λ n. support_formula rules (n ∷ [])) names)
    ∙ and_from (holds_all a (map rule_formula rules)) (holds_all a (map (λ n. support_formula rules (n ∷ [])) names)) (answer_set-holds rules a is) (each names)
  where
    each : (ns : List Name) → holds_all a (map (λ n. support_formula rules (n ∷ [])) ns) ≡ true
    each [] = refl
    each (n ∷ ns) = and_from (holds a (support_formula rules (n ∷ []))) (holds_all a (map (λ n. support_formula rules (n ∷ [])) ns)) (answer_set_supports rules (n ∷ []) a is) (each ns)

-- the parts of what a model of all that is left satisfies
pub left_parts : (a names : List Name) (rules : List ProgramRule) (beliefs : List Formula) (sets views : List ℕ) → holds_all a (left_formulas names rules sets beliefs views) ≡ true
    → (holds_all a (first_formulas names rules) ≡ true) × (holds_all a (map (other_formula beliefs) views) ≡ true)
left_parts a names rules beliefs sets views h =
    let (first, rest) = and_parts _ _ (sym (sides_value (first_formulas names rules) (place_formula rules names) a beliefs sets views) ∙ h) in
    (first, (and_parts _ _ rest).1)

-- ---- from step to step
all_insert : (P : ℕ → Type 0) (xs : List ℕ) (k x : ℕ) → AllByRecursion P xs → P x → AllByRecursion P (insert xs k x)
all_insert P [] zero x all one = (one, tt)
all_insert P [] (suc k) x all one = (one, tt)
all_insert P (y ∷ xs) zero x all one = (one, all)
all_insert P (y ∷ xs) (suc k) x all one = (all.0, all_insert P xs k x all.1 one)

module _ (names : List Name) (rules : List ProgramRule) (beliefs : List Formula) (old new : Listing) where
  module _ (set : ℕ) (e : IsSupported names rules set old new) where
    set_narrows : (a : List Name) → holds_all a (left_of names rules beliefs new) ≡ (holds_all a (left_of names rules beliefs old) && holds a (place_formula rules names set))
    set_narrows a =
        ap (λ (xs : List ℕ). holds_all a (left_formulas names rules xs beliefs new.views.items)) e.supported
        ∙ ap (λ (xs : List ℕ). holds_all a (left_formulas names rules (old.supported.items ++ set ∷ []) beliefs xs)) e.views
        ∙ sides_more (first_formulas names rules) (place_formula rules names) a beliefs old.supported.items old.views.items set

    pub set_listed : IsPartListing names rules beliefs old → IsPartListing names rules beliefs new
    set_listed was = record {
      known = meant_more names (left_of names rules beliefs old) (left_of names rules beliefs new) (place_formula rules names set) old.known new.known e.known set_narrows was.known;
      ascending = subst (IsAscending StateBefore) (sym e.views) was.ascending;
      accepted = subst (AllByRecursion (IsAcceptedView (Program rules) beliefs)) (sym e.views) was.accepted;
    }

    pub set_less : (model : ℕ) → IsModelAt names (left_of names rules beliefs old) model → holds (true_names 0 names model) (place_formula rules names set) ≡ false
        → models_left names (left_of names rules beliefs new) < models_left names (left_of names rules beliefs old)
    set_less model is not_so = models_less names (left_of names rules beliefs old) (left_of names rules beliefs new) (place_formula rules names set) model set_narrows is not_so

  module _ (model place : ℕ) (e : IsViewPlaced names beliefs model place old.known old.views.items new.known new.views.items) (same : new.supported.items ≡ old.supported.items)
      (atoms : AreAtomsOf names beliefs) (is : IsModelAt names (left_of names rules beliefs old) model) where
    view_narrows : (a : List Name) → holds_all a (left_of names rules beliefs new) ≡ (holds_all a (left_of names rules beliefs old) && holds a (other_formula beliefs e.view))
    view_narrows a =
        ap (λ (xs : List ℕ). holds_all a (left_formulas names rules xs beliefs new.views.items)) same
        ∙ ap (λ (xs : List ℕ). holds_all a (left_formulas names rules old.supported.items beliefs xs)) e.placed
        ∙ others_more (first_formulas names rules) (place_formula rules names) a beliefs old.supported.items old.views.items place e.view

    own : holds (true_names 0 names model) (other_formula beliefs e.view) ≡ false
    own = own_state names (true_names 0 names model) beliefs e.view atoms e.shows

    new_view : ¬ IsAmong e.view old.views.items
    new_view = other_view (true_names 0 names model) beliefs e.view old.views.items (left_parts (true_names 0 names model) names rules beliefs old.supported.items old.views.items is.formulas).1 own

    pub view_listed : IsAnswerSet rules (true_names 0 names model) → IsPartListing names rules beliefs old → IsPartListing names rules beliefs new
    view_listed accepted was = record {
      known = meant_more names (left_of names rules beliefs old) (left_of names rules beliefs new) (other_formula beliefs e.view) old.known new.known e.adds view_narrows was.known;
      ascending = subst (IsAscending StateBefore) (sym e.placed) (ascending_insert old.views.items place e.view was.ascending new_view e.before e.after);
      accepted = subst (AllByRecursion (IsAcceptedView (Program rules) beliefs)) (sym e.placed)
          (all_insert (IsAcceptedView (Program rules) beliefs) old.views.items place e.view was.accepted (record { belief_set = Atoms (true_names 0 names model); accepted = accepted; shown = e.shows }));
    }

    pub view_less : models_left names (left_of names rules beliefs new) < models_left names (left_of names rules beliefs old)
    view_less = models_less names (left_of names rules beliefs old) (left_of names rules beliefs new) (other_formula beliefs e.view) model view_narrows is own

-- ---- at the end
accepted_low : (rules : List ProgramRule) (beliefs : List Formula) (x : ℕ) → IsAcceptedView (Program rules) beliefs x → (j : ℕ) → has x j ≡ true → j < length beliefs
accepted_low rules beliefs x view = at view.belief_set view.accepted view.shown
  where
    at : (b : BeliefSet) → Accepts (Program rules) b → Shows b beliefs x → (j : ℕ) → has x j ≡ true → j < length beliefs
    at (Theory e) none shows = absurd none
    at (Atoms a) is shows = shows-below a beliefs x shows

pub all_listed : (names : List Name) (rules : List ProgramRule) (beliefs : List Formula) (s : Listing) → AreAtomsOf names beliefs → IsPartListing names rules beliefs s
    → ((a : List Name) → ¬ (holds_all a (left_of names rules beliefs s) ≡ true)) → IsListing (IsAcceptedView (Program rules) beliefs) StateBefore s.views.items
all_listed names rules beliefs s atoms listed none = record {
  exactly = λ x. (all_among (IsAcceptedView (Program rules) beliefs) s.views.items x listed.accepted, λ view. at x view.belief_set view.accepted view.shown);
  ascending = listed.ascending;
}
  where
    at : (x : ℕ) (b : BeliefSet) → Accepts (Program rules) b → Shows b beliefs x → IsAmong x s.views.items
    at x (Theory e) none' shows = absurd none'
    at x (Atoms a) is shows = elim (cases_among x s.views.items) [
      | inl there ↦ there
      | inr new ↦ absurd (none a (sides-hold (first_formulas names rules) (place_formula rules names) names beliefs s.supported.items s.views.items a x atoms shows (first_hold a names rules is)
          (λ set. answer_set_supports rules (true_names 0 names set) a is)
          (all_weaker (IsAcceptedView (Program rules) beliefs) (λ state. (j : ℕ) → has state j ≡ true → j < length beliefs) (accepted_low rules beliefs) s.views.items listed.accepted) new))
    ]
