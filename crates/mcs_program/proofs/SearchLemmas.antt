-- How the search for answer sets goes on.
use Rattle.std.proofs.Common.{◌≡◌, ℕ, ◌+◌, ◌<◌, ◌≤◌, ◌^◌, zero, suc, Bool, true, false, ◌&&◌, cond, List, [], ◌∷◌, ◌++◌, inl, inr, map, length, take, drop, get_or, insert, arith, refl, sym, ap, ◌∙◌, subst, append-nil, true≢false}
use Rattle.std.proofs.lemmas.Bool.{and_parts, cases_lt}
use Rattle.std.proofs.lemmas.List.Folds.{list_all-append}
use Rattle.std.proofs.lemmas.List.{take-append-drop, map-append, length-drop, get_or-drop}
use Rattle.std.specs.List.{AllByRecursion, AllZip}
use Rattle.mcs_sets.specs.Sets.{has}
use Rattle.mcs_sets.specs.Orders.{StateBefore}
use Rattle.mcs_sets.proofs.Lattice.{below_from_members}
use Rattle.mcs_base.specs.Listings.{IsAmong, IsAscending}
use Rattle.mcs_base.specs.StateOrder.{StateBefore-total, StateBefore-transitive}
use Rattle.mcs_base.proofs.Each.{all_among, all_push, all_from_among}
use Rattle.mcs_base.proofs.Among.{zip_among, drop_among}
use Rattle.mcs_base.proofs.Ascending.{ascending_append, ascending_drop}
use Rattle.mcs_base.proofs.Written.{list_all-insert}
use Rattle.mcs_base.proofs.Sorted.{all_after, ascending_take}
use Rattle.mcs_system.specs.Plain.{Name, Formula, Atom, ProgramRule}
use Rattle.mcs_system.specs.Logic.{holds, holds_all, true_names}
use Rattle.mcs_trace.specs.Clauses.{ClauseList}
use Rattle.mcs_trace.specs.Traces.{Inference, IsAcceptedTrace}
use Rattle.mcs_cnf.specs.ClauseLists.{clause_list}
use Rattle.mcs_cnf.specs.Entailments.{IsModelAt}
use Rattle.mcs_evidence.specs.Programs.{rule_formula, beside_formula, other_formula, smaller_formulas, rest_formulas, model_shown_of, AreAtomsOf, IsInRange, IsAcceptedModel}
use Rattle.mcs_evidence.specs.Pushing.{AreNamesOf}
use Rattle.mcs_evidence.proofs.Models.{shows-below, own_state, smaller_places, beside_excludes}
use Rattle.mcs_meant.specs.Meanings.{AreMeantBy, AddsFormula}
use Rattle.mcs_program.specs.declared.search.Search.{Search}
use Rattle.mcs_program.specs.Searches.{IsProgramKnown, IsProgramSearch, IsExcluded, IsViewListed, count_below, sets_left}
use Rattle.mcs_meant.proofs.MeaningLemmas.{last_too, meant_same}

-- ---- names as beliefs
pub atoms_of_names : (names ns : List Name) → AreNamesOf names ns → AreAtomsOf names (map Atom ns)
atoms_of_names names [] all = tt
atoms_of_names names (n ∷ ns) all = ((n, refl, all.0), atoms_of_names names ns all.1)

-- ---- one formula more
-- of formulas to begin with, one of each set, and that the view is none of those found
pub sides_value : (base : List Formula) (side : ℕ → Formula) (a : List Name) (beliefs : List Formula) (sets views : List ℕ)
    → holds_all a (base ++ (map side sets ++ map (other_formula beliefs) views)) ≡ (holds_all a base && (holds_all a (map side sets) && holds_all a (map (other_formula beliefs) views)))
sides_value base side a beliefs sets views =
    list_all-append (holds a) base (map side sets ++ map (other_formula beliefs) views)
    ∙ ap (λ (b : Bool). holds_all a base && b) (list_all-append (holds a) (map side sets) (map (other_formula beliefs) views))

pub rest_value : (a names : List Name) (rules : List ProgramRule) (beliefs : List Formula) (smaller views : List ℕ)
    → holds_all a (rest_formulas names rules beliefs smaller views) ≡ (holds_all a (map rule_formula rules) && (holds_all a (map (beside_formula names rules) smaller) && holds_all a (map (other_formula beliefs) views)))
rest_value a names rules beliefs smaller views = sides_value (map rule_formula rules) (beside_formula names rules) a beliefs smaller views

pub map_placed : {A B : Type 0} (f : A → B) (xs : List A) (k : ℕ) (x : A) → map f (insert xs k x) ≡ insert (map f xs) k (f x)
map_placed f [] zero x = refl
map_placed f [] (suc k) x = refl
map_placed f (y ∷ xs) zero x = refl
map_placed f (y ∷ xs) (suc k) x = ap (λ zs. f y ∷ zs) (map_placed f xs k x)

mapped_inside : {A : Type 0} (a : List Name) (f : A → Formula) (xs ys : List A) (x : A) → holds_all a (map f (xs ++ x ∷ ys)) ≡ (holds_all a (map f (xs ++ ys)) && holds a (f x))
mapped_inside a f xs ys x = ap (holds_all a) (map-append f xs (x ∷ ys)) ∙ list_all-insert (holds a) (map f xs) (map f ys) (f x) ∙ ap (λ fs. holds_all a fs && holds a (f x)) (sym (map-append f xs ys))

pub sides_more : (base : List Formula) (side : ℕ → Formula) (a : List Name) (beliefs : List Formula) (sets views : List ℕ) (set : ℕ)
    → holds_all a (base ++ (map side (sets ++ set ∷ []) ++ map (other_formula beliefs) views)) ≡ (holds_all a (base ++ (map side sets ++ map (other_formula beliefs) views)) && holds a (side set))
sides_more base side a beliefs sets views set =
    sides_value base side a beliefs (sets ++ set ∷ []) views
    ∙ ap (λ b. holds_all a base && (b && holds_all a (map (other_formula beliefs) views))) (mapped_inside a side sets [] set ∙ ap (λ xs. holds_all a (map side xs) && holds a (side set)) (append-nil sets))
    ∙ move (holds_all a base) (holds_all a (map side sets)) (holds_all a (map (other_formula beliefs) views)) (holds a (side set))
    ∙ ap (λ b. b && holds a (side set)) (sym (sides_value base side a beliefs sets views))
  where
    move : (r b o x : Bool) → (r && ((b && x) && o)) ≡ ((r && (b && o)) && x)
    move false b o x = refl
    move true false o x = refl
    move true true true true = refl
    move true true true false = refl
    move true true false true = refl
    move true true false false = refl

pub smaller_more : (a names : List Name) (rules : List ProgramRule) (beliefs : List Formula) (smaller views : List ℕ) (less : ℕ)
    → holds_all a (rest_formulas names rules beliefs (smaller ++ less ∷ []) views) ≡ (holds_all a (rest_formulas names rules beliefs smaller views) && holds a (beside_formula names rules less))
smaller_more a names rules beliefs smaller views less = sides_more (map rule_formula rules) (beside_formula names rules) a beliefs smaller views less

pub others_more : (base : List Formula) (side : ℕ → Formula) (a : List Name) (beliefs : List Formula) (sets views : List ℕ) (place view : ℕ)
    → holds_all a (base ++ (map side sets ++ map (other_formula beliefs) (insert views place view))) ≡ (holds_all a (base ++ (map side sets ++ map (other_formula beliefs) views)) && holds a (other_formula beliefs view))
others_more base side a beliefs sets views place view =
    sides_value base side a beliefs sets (insert views place view)
    ∙ ap (λ b. holds_all a base && (holds_all a (map side sets) && b))
    (mapped_inside a (other_formula beliefs) (take place views) (drop place views) view ∙ ap (λ xs. holds_all a (map (other_formula beliefs) xs) && holds a (other_formula beliefs view)) (take-append-drop place views))
    ∙ move (holds_all a base) (holds_all a (map side sets)) (holds_all a (map (other_formula beliefs) views)) (holds a (other_formula beliefs view))
    ∙ ap (λ b. b && holds a (other_formula beliefs view)) (sym (sides_value base side a beliefs sets views))
  where
    move : (r b o x : Bool) → (r && (b && (o && x))) ≡ ((r && (b && o)) && x)
    move false b o x = refl
    move true false o x = refl
    move true true o x = refl

pub views_more : (a names : List Name) (rules : List ProgramRule) (beliefs : List Formula) (smaller views : List ℕ) (place view : ℕ)
    → holds_all a (rest_formulas names rules beliefs smaller (insert views place view)) ≡ (holds_all a (rest_formulas names rules beliefs smaller views) && holds a (other_formula beliefs view))
views_more a names rules beliefs smaller views place view = others_more (map rule_formula rules) (beside_formula names rules) a beliefs smaller views place view

-- a view that no formula of those found allows is a new one
pub other_view : (a : List Name) (beliefs : List Formula) (view : ℕ) (views : List ℕ) → holds_all a (map (other_formula beliefs) views) ≡ true → holds a (other_formula beliefs view) ≡ false → ¬ IsAmong view views
other_view a beliefs view [] all own h = absurd h
other_view a beliefs view (x ∷ xs) all own (inl same) = true≢false (sym (ap (λ v. holds a (other_formula beliefs v)) same ∙ (and_parts _ _ all).0) ∙ own)
other_view a beliefs view (x ∷ xs) all own (inr h) = other_view a beliefs view xs (and_parts _ _ all).1 own h

-- ---- the measure
pub fewer : (n m : ℕ) (p q : ℕ → Bool) → ((s : ℕ) → q s ≡ true → p s ≡ true) → m < n → p m ≡ true → q m ≡ false → count_below n q < count_below n p
unfolding count_below
fewer zero m p q within less is not_so = absurd (omega arith)
fewer (suc n) m p q within less is not_so = elim (cases_lt m n) [
  | inl below ↦ one (p n) (q n) (within n) (fewer n m p q within below is not_so)
  | inr past ↦ let last : m ≡ n = omega arith in here (p n) (q n) (ap p (sym last) ∙ is) (ap q (sym last) ∙ not_so) (at_most n)
]
  where
    one : (u v : Bool) → (v ≡ true → u ≡ true) → count_below n q < count_below n p → cond v (count_below n q + 1) (count_below n q) < cond u (count_below n p + 1) (count_below n p)
    one true true h low = omega (arith, low)
    one true false h low = omega (arith, low)
    one false true h low = absurd (true≢false (sym (h refl)))
    one false false h low = low

    at_most : (k : ℕ) → count_below k q ≤ count_below k p
    at_most zero = omega arith
    at_most (suc k) = step (p k) (q k) (within k) (at_most k)
      where
        step : (u v : Bool) → (v ≡ true → u ≡ true) → count_below k q ≤ count_below k p → cond v (count_below k q + 1) (count_below k q) ≤ cond u (count_below k p + 1) (count_below k p)
        step true true h low = omega (arith, low)
        step true false h low = omega (arith, low)
        step false true h low = absurd (true≢false (sym (h refl)))
        step false false h low = low

    here : (u v : Bool) → u ≡ true → v ≡ false → count_below n q ≤ count_below n p → cond v (count_below n q + 1) (count_below n q) < cond u (count_below n p + 1) (count_below n p)
    here true false e e' low = omega (arith, low)
    here true true e e' low = absurd (true≢false e')
    here false v e e' low = absurd (true≢false (sym e))

-- ---- from formulas to formulas
-- the clauses mean a formula more
pub meant_more : (names : List Name) (fs gs : List Formula) (f : Formula) (old new : ClauseList) → AddsFormula names f old new → ((a : List Name) → holds_all a gs ≡ (holds_all a fs && holds a f)) → AreMeantBy names fs old → AreMeantBy names gs new
meant_more names fs gs f old new adds narrows known = meant_same names (fs ++ f ∷ []) gs new (λ a. last_too a fs f ∙ sym (narrows a)) (adds fs known)

-- one model is left less
pub models_less : (names : List Name) (fs gs : List Formula) (f : Formula) (model : ℕ) → ((a : List Name) → holds_all a gs ≡ (holds_all a fs && holds a f)) → IsModelAt names fs model → holds (true_names 0 names model) f ≡ false
    → count_below (2 ^ length names) (λ s. holds_all (true_names 0 names s) gs) < count_below (2 ^ length names) (λ s. holds_all (true_names 0 names s) fs)
models_less names fs gs f model narrows is not_so =
    fewer (2 ^ length names) model (λ s. holds_all (true_names 0 names s) fs) (λ s. holds_all (true_names 0 names s) gs)
    (λ s h. (and_parts _ _ (sym (narrows (true_names 0 names s)) ∙ h)).0) (below_from_members (length names) model is.in_range) is.formulas
    (narrows (true_names 0 names model) ∙ ap (λ b. holds_all (true_names 0 names model) fs && b) not_so ∙ none (holds_all (true_names 0 names model) fs))
  where
    none : (b : Bool) → (b && false) ≡ false
    none true = refl
    none false = refl

-- ---- from search to search
module _ (names : List Name) (rules : List ProgramRule) (beliefs : List Formula) where
  abbrev rest : Search → List Formula
  rest s = rest_formulas names rules beliefs s.smaller.items s.views.items

  -- all is known that was, and a formula
  abbrev Narrows : Search → Search → Formula → Type 0
  Narrows old new f = (a : List Name) → holds_all a (rest_formulas names rules beliefs new.smaller.items new.views.items) ≡ (holds_all a (rest_formulas names rules beliefs old.smaller.items old.views.items) && holds a f)

  pub known_more : (old new : Search) (f : Formula) → AddsFormula names f old.known new.known → Narrows old new f → IsProgramKnown names rules beliefs old → IsProgramKnown names rules beliefs new
  known_more old new f adds narrows known = meant_more names (rest old) (rest new) f old.known new.known adds narrows known

  pub left_less : (old new : Search) (f : Formula) (model : ℕ) → Narrows old new f → IsModelAt names (rest_formulas names rules beliefs old.smaller.items old.views.items) model → holds (true_names 0 names model) f ≡ false
      → sets_left names rules beliefs new < sets_left names rules beliefs old
  left_less old new f model narrows is not_so = models_less names (rest old) (rest new) f model narrows is not_so

  pub begun : (s : Search) → AreMeantBy names (map rule_formula rules) s.known → s.smaller.items ≡ [] → s.views.items ≡ [] → s.models.items ≡ [] → IsProgramSearch names rules beliefs s
  begun s known smaller views models = record {
    known = meant_same names (map rule_formula rules) (rest s) s.known
        (λ a. sym (ap (λ xs. holds_all a (rest_formulas names rules beliefs xs s.views.items)) smaller ∙ ap (λ xs. holds_all a (rest_formulas names rules beliefs [] xs)) views ∙ ap (holds_all a) (append-nil (map rule_formula rules)))) known;
    ascending = subst (IsAscending StateBefore) (sym views) tt;
    models = subst (λ xs. AllZip (IsAcceptedModel names rules beliefs) xs (map model_shown_of s.models.items)) (sym views) (subst (λ xs. AllZip (IsAcceptedModel names rules beliefs) [] (map model_shown_of xs)) (sym models) tt);
    in_range = subst (AllByRecursion (IsInRange names)) (sym smaller) tt;
  }

  excluded_narrows : (old new : Search) (less : ℕ) → IsExcluded names rules less old new → Narrows old new (beside_formula names rules less)
  excluded_narrows old new less e a =
      ap (λ xs. holds_all a (rest_formulas names rules beliefs xs new.views.items)) e.smaller
      ∙ ap (λ xs. holds_all a (rest_formulas names rules beliefs (old.smaller.items ++ less ∷ []) xs)) e.views
      ∙ smaller_more a names rules beliefs old.smaller.items old.views.items less

  pub excluded_search : (old new : Search) (less : ℕ) → IsInRange names less → IsExcluded names rules less old new → IsProgramSearch names rules beliefs old → IsProgramSearch names rules beliefs new
  excluded_search old new less range e was = record {
    known = known_more old new (beside_formula names rules less) e.known (excluded_narrows old new less e) was.known;
    ascending = subst (IsAscending StateBefore) (sym e.views) was.ascending;
    models = subst (λ xs. AllZip (IsAcceptedModel names rules beliefs) xs (map model_shown_of new.models.items)) (sym e.views) (subst (λ ms. AllZip (IsAcceptedModel names rules beliefs) old.views.items (map model_shown_of ms)) (sym e.models) was.models);
    in_range = subst (AllByRecursion (IsInRange names)) (sym e.smaller) (all_push (IsInRange names) old.smaller.items less was.in_range range);
  }

  pub excluded_less : (old new : Search) (model less : ℕ) → IsExcluded names rules less old new → IsModelAt names (rest_formulas names rules beliefs old.smaller.items old.views.items) model → IsModelAt names (smaller_formulas names rules model) less
      → sets_left names rules beliefs new < sets_left names rules beliefs old
  excluded_less old new model less e is below =
      let both = smaller_places names rules model less below.formulas in
      left_less old new (beside_formula names rules less) model (excluded_narrows old new less e) is (beside_excludes names rules model less both.0 both.1)

-- ---- one view more
pub ascending_insert : (xs : List ℕ) (k view : ℕ) → IsAscending StateBefore xs → ¬ IsAmong view xs → AllByRecursion (λ v. StateBefore v view) (take k xs) → (k < length xs → ¬ StateBefore (get_or xs k 0) view) → IsAscending StateBefore (insert xs k view)
ascending_insert xs k view up new before after =
    let later : AllByRecursion (StateBefore view) (drop k xs) = all_after StateBefore StateBefore-transitive StateBefore-total view 0 (drop k xs) (ascending_drop StateBefore xs k up) (λ h. new (drop_among xs k view h))
    (λ h b. after (omega (arith, h, length-drop k xs)) (subst (λ x. StateBefore x view) (get_or-drop k xs 0 0 ∙ (let e : k + 0 ≡ k = omega arith in ap (λ n. get_or xs n 0) e)) b)) in
    ascending_append StateBefore (take k xs) (view ∷ drop k xs)
    (λ x y h h'. let b : StateBefore x view = all_among (λ v. StateBefore v view) (take k xs) x before h in elim h' [
      | inl same ↦ subst (StateBefore x) (sym same) b
      | inr there ↦ StateBefore-transitive x view y b (all_among (StateBefore view) (drop k xs) y later there)
    ])
    (ascending_take StateBefore xs k up) (later, ascending_drop StateBefore xs k up)

zip_insert : {A B : Type 0} (R : A → B → Type 0) (xs : List A) (ys : List B) (k : ℕ) (x : A) (y : B) → AllZip R xs ys → R x y → AllZip R (insert xs k x) (insert ys k y)
zip_insert R [] [] zero x y all one = (one, tt)
zip_insert R [] [] (suc k) x y all one = (one, tt)
zip_insert R [] (y' ∷ ys) k x y all one = absurd all
zip_insert R (x' ∷ xs) [] k x y all one = absurd all
zip_insert R (x' ∷ xs) (y' ∷ ys) zero x y all one = (one, all)
zip_insert R (x' ∷ xs) (y' ∷ ys) (suc k) x y all one = (all.0, zip_insert R xs ys k x y all.1 one)

module _ (names : List Name) (rules : List ProgramRule) (beliefs : List Formula) (old new : Search) (model : ℕ) (minimal : List Inference) (listed : IsViewListed names beliefs model minimal old new) where
  view : ℕ
  view = listed.placed.viewed.view

  views_are : new.views.items ≡ insert old.views.items listed.place listed.placed.viewed.view
  views_are = listed.views ∙ listed.placed.viewed.placed

  listed_narrows : (a : List Name) → holds_all a (rest_formulas names rules beliefs new.smaller.items new.views.items) ≡ (holds_all a (rest_formulas names rules beliefs old.smaller.items old.views.items) && holds a (other_formula beliefs listed.placed.viewed.view))
  listed_narrows a =
      ap (λ xs. holds_all a (rest_formulas names rules beliefs xs new.views.items)) (listed.smaller ∙ listed.placed.smaller)
      ∙ ap (λ xs. holds_all a (rest_formulas names rules beliefs old.smaller.items xs)) views_are
      ∙ views_more a names rules beliefs old.smaller.items old.views.items listed.place listed.placed.viewed.view

  module _ (atoms : AreAtomsOf names beliefs) (is : IsModelAt names (rest_formulas names rules beliefs old.smaller.items old.views.items) model) where
    own : holds (true_names 0 names model) (other_formula beliefs listed.placed.viewed.view) ≡ false
    own = own_state names (true_names 0 names model) beliefs listed.placed.viewed.view atoms listed.placed.viewed.shows

    parts : (holds_all (true_names 0 names model) (map rule_formula rules) ≡ true) × (holds_all (true_names 0 names model) (map (beside_formula names rules) old.smaller.items) && holds_all (true_names 0 names model) (map (other_formula beliefs) old.views.items) ≡ true)
    parts = and_parts _ _ (sym (rest_value (true_names 0 names model) names rules beliefs old.smaller.items old.views.items) ∙ is.formulas)

    new_view : ¬ IsAmong listed.placed.viewed.view old.views.items
    new_view = other_view (true_names 0 names model) beliefs listed.placed.viewed.view old.views.items (and_parts _ _ parts.1).1 own

    pub listed_less : sets_left names rules beliefs new < sets_left names rules beliefs old
    listed_less = left_less names rules beliefs old new (other_formula beliefs listed.placed.viewed.view) model listed_narrows is own

    pub listed_search : IsAcceptedTrace (clause_list names (smaller_formulas names rules model)).clauses minimal → IsProgramSearch names rules beliefs old → IsProgramSearch names rules beliefs new
    listed_search refutes was = record {
      known = known_more names rules beliefs old new (other_formula beliefs listed.placed.viewed.view) (λ fs m. subst (AreMeantBy names (fs ++ other_formula beliefs listed.placed.viewed.view ∷ [])) (sym listed.known) (listed.placed.viewed.adds fs m)) listed_narrows was.known;
      ascending = subst (IsAscending StateBefore) (sym views_are) (ascending_insert old.views.items listed.place listed.placed.viewed.view was.ascending new_view listed.placed.viewed.before listed.placed.viewed.after);
      models = subst (λ xs. AllZip (IsAcceptedModel names rules beliefs) xs (map model_shown_of new.models.items)) (sym views_are)
          (subst (AllZip (IsAcceptedModel names rules beliefs) (insert old.views.items listed.place listed.placed.viewed.view)) (sym listed.models)
          (zip_insert (IsAcceptedModel names rules beliefs) old.views.items (map model_shown_of old.models.items) listed.place listed.placed.viewed.view (record { model = model; minimal = minimal }) was.models
          (record { shown = record { in_range = is.in_range; satisfies = parts.0; minimal = refutes }; shows = listed.placed.viewed.shows })));
      in_range = subst (AllByRecursion (IsInRange names)) (sym (listed.smaller ∙ listed.placed.smaller)) was.in_range;
    }

-- the views that were found have beliefs alone
pub views_low : (names : List Name) (rules : List ProgramRule) (beliefs : List Formula) (s : Search) → IsProgramSearch names rules beliefs s → AllByRecursion (λ state. (j : ℕ) → has state j ≡ true → j < length beliefs) s.views.items
views_low names rules beliefs s found = all_from_among (λ state. (j : ℕ) → has state j ≡ true → j < length beliefs) s.views.items (λ state among.
    let (m, there, is) = zip_among (IsAcceptedModel names rules beliefs) s.views.items (map model_shown_of s.models.items) found.models state among in
    shows-below (true_names 0 names m.model) beliefs state is.shows)
