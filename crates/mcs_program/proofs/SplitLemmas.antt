-- The views of all models, which are found by splitting on one belief after the other.
use Rattle.std.proofs.Common.{◌≡◌, ℕ, ◌+◌, ◌<◌, Bool, true, false, not, List, [], ◌∷◌, ◌++◌, ◌⊎◌, inl, inr, length, take, Some, slice_get, arith, refl, sym, ap, ◌∙◌, subst, ℤ}
use Rattle.std.proofs.Math.Seq.{take-append_seam}
use Rattle.std.proofs.lemmas.Bool.{and_parts, and_from, not_from_false, cases_lt}
use Rattle.std.proofs.lemmas.Option.{same_Some}
use Rattle.std.specs.Cmp.{both_ways}
use Rattle.std.specs.List.{AllByRecursion}
use Rattle.mcs_sets.specs.Sets.{has}
use Rattle.mcs_sets.specs.Orders.{StateBefore}
use Rattle.mcs_sets.proofs.SetLemmas.{same_set}
use Rattle.mcs_base.specs.Listings.{IsAmong, IsListing}
use Rattle.mcs_base.proofs.Among.{among_push}
use Rattle.mcs_base.proofs.Each.{all_weaker}
use Rattle.mcs_base.proofs.Lists.{slice_get_below}
use Rattle.mcs_system.specs.Plain.{Name, Formula, ProgramRule, Program}
use Rattle.mcs_system.specs.Logic.{is_in, holds, holds_all, true_names, BeliefSet, Theory, Atoms, Accepts}
use Rattle.mcs_system.specs.Views.{Shows, IsAcceptedView}
use Rattle.mcs_trace.specs.Clauses.{ClauseList, IsWithin, IsClauseList}
use Rattle.mcs_evidence.specs.Programs.{AreAtomsOf}
use Rattle.mcs_evidence.specs.Supports.{IsBased}
use Rattle.mcs_evidence.proofs.Models.{true_names-known, shows-holds, shows-below}
use Rattle.mcs_program.specs.Listings.{first_formulas}
use Rattle.mcs_program.specs.Splitting.{value_formula, AgreeWith, AreModelViews, AreModelViewsAdded, IsModelView}
use Rattle.mcs_meant.proofs.MeaningLemmas.{last_too}
use Rattle.mcs_program.proofs.ListingLemmas.{first_parts, first_hold, tight_answer_set}

-- ---- a formula with a value
value_holds : (a : List Name) (f : Formula) (value : Bool) → holds a f ≡ value → holds a (value_formula f value) ≡ true
value_holds a f true h = h
value_holds a f false h = not_from_false (holds a f) h

value_is : (a : List Name) (f : Formula) (value : Bool) → holds a (value_formula f value) ≡ true → holds a f ≡ value
value_is a f true h = h
value_is a f false h = at (holds a f) h
  where
    at : (b : Bool) → not b ≡ true → b ≡ false
    at true h = sym h
    at false h = refl

one_or_other : (b value : Bool) → (b ≡ value) ⊎ (b ≡ not value)
one_or_other true true = inl refl
one_or_other true false = inr refl
one_or_other false true = inr refl
one_or_other false false = inl refl

module _ (a : List Name) (fs : List Formula) (f : Formula) (value : Bool) where
  with_parts : holds_all a (fs ++ value_formula f value ∷ []) ≡ true → (holds_all a fs ≡ true) × (holds a f ≡ value)
  with_parts h =
      let (all, last) = and_parts (holds_all a fs) (holds a (value_formula f value)) (sym (last_too a fs (value_formula f value)) ∙ h) in
      (all, value_is a f value last)

  with_value : holds_all a fs ≡ true → holds a f ≡ value → holds_all a (fs ++ value_formula f value ∷ []) ≡ true
  with_value all is = last_too a fs (value_formula f value) ∙ and_from (holds_all a fs) (holds a (value_formula f value)) all (value_holds a f value is)

pub none_decided : (beliefs fs : List Formula) (view : ℕ) → AgreeWith beliefs fs view 0
none_decided beliefs fs view a h k p less is = absurd (omega (arith, less))

-- ---- of beliefs that are atoms
module _ (names : List Name) (beliefs : List Formula) (atoms : AreAtomsOf names beliefs) where
  -- a model of more formulas is one of these
  fewer_formulas : (fs : List Formula) (f : Formula) (value : Bool) (view : ℕ) → IsModelView names beliefs (fs ++ value_formula f value ∷ []) view → IsModelView names beliefs fs view
  fewer_formulas fs f value view v = record {
    model = v.model;
    is = record { in_range = v.is.in_range; formulas = (with_parts (true_names 0 names v.model) fs f value v.is.formulas).0 };
    shows = v.shows;
  }

  -- where a belief has the value that the view has, the same view is a model's
  pub view_kept : (fs : List Formula) (f : Formula) (view k : ℕ) → slice_get beliefs k ≡ Some f → IsModelView names beliefs fs view → IsModelView names beliefs (fs ++ value_formula f (has view k) ∷ []) view
  view_kept fs f view k at v = record {
    model = v.model;
    is = record {
      in_range = v.is.in_range;
      formulas = with_value (true_names 0 names v.model) fs f (has view k) v.is.formulas (shows-holds names (true_names 0 names v.model) beliefs view atoms v.shows k f at);
    };
    shows = v.shows;
  }

  -- one more belief is decided
  pub agree_more : (fs : List Formula) (f : Formula) (value : Bool) (view other k : ℕ) → slice_get beliefs k ≡ Some f → AgreeWith beliefs fs view k → IsModelView names beliefs (fs ++ value_formula f value ∷ []) other
      → AgreeWith beliefs (fs ++ value_formula f value ∷ []) other (k + 1)
  agree_more fs f value view other k at agree v a h j p less is =
      let m = true_names 0 names v.model in
      let (all, here) = with_parts a fs f value h in
      let (all', here') = with_parts m fs f value v.is.formulas in
      let shown = shows-holds names m beliefs other atoms v.shows j p is in
      elim (cases_lt j k) [
        | inl below ↦ agree a all j p below is ∙ sym (agree m all' j p below is) ∙ shown
        | inr past ↦
            let e : j ≡ k = omega arith in
            let same : p ≡ f = same_Some p f (sym is ∙ ap (slice_get beliefs) e ∙ at) in
            ap (holds a) same ∙ here ∙ sym here' ∙ sym (ap (holds m) same) ∙ shown
      ]

  -- where all beliefs are decided, the view is the only one
  pub one_added : (fs : List Formula) (view decided : ℕ) (views views' : List ℕ) → decided ≡ length beliefs → views' ≡ views ++ view ∷ [] → IsModelView names beliefs fs view → AgreeWith beliefs fs view decided
      → AreModelViewsAdded names beliefs fs views views'
  one_added fs view decided views views' end pushed v agree = record {
    kept = λ x h. subst (IsAmong x) (sym pushed) ((among_push x views view).1 (inl h));
    found = λ x h. elim ((among_push x views view).0 (subst (IsAmong x) pushed h)) [
      | inl old ↦ inl old
      | inr same ↦ inr (subst (IsModelView names beliefs fs) (sym same) v)
    ];
    all = λ a x sat shows. subst (IsAmong x) (sym pushed) ((among_push x views view).1 (inr (same_set x view (λ j. both_ways (has x j) (has view j)
        (λ h. sym (at a x sat shows j (shows-below a beliefs x shows j h)) ∙ h)
        (λ h. at a x sat shows j (shows-below (true_names 0 names v.model) beliefs view v.shows j h) ∙ h)))));
  }
    where
      at : (a : List Name) (x : ℕ) → holds_all a fs ≡ true → Shows (Atoms a) beliefs x → (j : ℕ) → j < length beliefs → has x j ≡ has view j
      at a x sat shows j less =
          let (p, is) = slice_get_below beliefs j less in
          let below : j < decided = omega (arith, end) in
          sym (shows-holds names a beliefs x atoms shows j p is) ∙ agree a sat j p below is

  -- without a model there is no view
  pub none_added : (fs : List Formula) (views : List ℕ) → ((a : List Name) → ¬ (holds_all a fs ≡ true)) → AreModelViewsAdded names beliefs fs views views
  none_added fs views none = record {
    kept = λ x h. h;
    found = λ x h. inl h;
    all = λ a x sat shows. absurd (none a sat);
  }

  -- the views where a formula has the one value, and then those where it has the other one
  pub both_added : (fs : List Formula) (f : Formula) (value : Bool) (views between views' : List ℕ) → AreModelViewsAdded names beliefs (fs ++ value_formula f value ∷ []) views between
      → AreModelViewsAdded names beliefs (fs ++ value_formula f (not value) ∷ []) between views' → AreModelViewsAdded names beliefs fs views views'
  both_added fs f value views between views' first second = record {
    kept = λ x h. second.kept x (first.kept x h);
    found = λ x h. elim (second.found x h) [
      | inl there ↦ elim (first.found x there) [ inl old ↦ inl old | inr v ↦ inr (fewer_formulas fs f value x v) ]
      | inr v ↦ inr (fewer_formulas fs f (not value) x v)
    ];
    all = λ a x sat shows. elim (one_or_other (holds a f) value) [
      | inl one ↦ second.kept x (first.all a x (with_value a fs f value sat one) shows)
      | inr other ↦ second.all a x (with_value a fs f (not value) sat other) shows
    ];
  }

  -- put in order they are a listing
  pub all_views : (fs : List Formula) (views listed : List ℕ) → AreModelViewsAdded names beliefs fs [] views → IsListing (λ s. IsAmong s views) StateBefore listed → AreModelViews names beliefs fs listed
  all_views fs views listed added listing = record {
    ascending = listing.ascending;
    found = λ x h. elim (added.found x ((listing.exactly x).0 h)) [ inl none ↦ absurd none | inr v ↦ v ];
    all = λ a x sat shows. (listing.exactly x).1 (added.all a x sat shows);
  }

-- without loops they are those of the answer sets
pub tight_views : (names : List Name) (rules : List ProgramRule) (beliefs : List Formula) (views : List ℕ) → ((n : Name) → is_in n names ≡ true → IsBased rules n) → AreModelViews names beliefs (first_formulas names rules) views
    → IsListing (IsAcceptedView (Program rules) beliefs) StateBefore views
tight_views names rules beliefs views based are = record {
  exactly = λ x. (λ h. accepted x (are.found x h), λ view. at x view.belief_set view.accepted view.shown);
  ascending = are.ascending;
}
  where
    accepted : (x : ℕ) → IsModelView names beliefs (first_formulas names rules) x → IsAcceptedView (Program rules) beliefs x
    accepted x v =
        let a = true_names 0 names v.model in
        let (rules_hold, own) = first_parts a names rules v.is.formulas in
        record {
          belief_set = Atoms a;
          accepted = tight_answer_set names rules v.model based rules_hold (λ n here. own n (true_names-known n 0 names v.model here));
          shown = v.shows;
        }

    at : (x : ℕ) (b : BeliefSet) → Accepts (Program rules) b → Shows b beliefs x → IsAmong x views
    at x (Theory e) none shows = absurd none
    at x (Atoms a) is shows = are.all a x (first_hold a names rules is) shows

-- ---- clauses that are added and cut
module _ (old now : ClauseList) (c : List ℤ) (is : now ≡ record old { clauses = old.clauses ++ c ∷ [] }) (vars count : ℕ) (same_vars : vars ≡ old.vars) (same_count : count ≡ length old.clauses) where
  front : take count now.clauses ≡ old.clauses
  front = ap (λ n. take n now.clauses) same_count ∙ ap (λ (k : ClauseList). take (length old.clauses) k.clauses) is ∙ take-append_seam old.clauses (c ∷ [])

  pub value_within : IsClauseList old → AllByRecursion (IsWithin vars) (take count now.clauses)
  value_within kept = subst (AllByRecursion (IsWithin vars)) (sym front) (subst (λ n. AllByRecursion (IsWithin n) old.clauses) (sym same_vars) (all_weaker _ (IsWithin old.vars) (λ c both. both.1) old.clauses kept.1))

  pub value_back : (cut : ClauseList) → cut ≡ record { vars = vars; clauses = take count now.clauses } → cut ≡ old
  value_back cut done = done ∙ ap (λ n. (let f : ClauseList = record { vars = n; clauses = take count now.clauses } in f)) same_vars ∙ ap (λ cs. (let f : ClauseList = record { vars = old.vars; clauses = cs } in f)) front
