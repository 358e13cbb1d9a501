-- What a context accepts through its variables is what its knowledge base accepts through their beliefs.
use Rattle.std.proofs.Common.{◌≡◌, ℕ, ◌+◌, ◌<◌, Bool, true, false, ◌||◌, cond, eqb, ltb, List, [], ◌∷◌, map, length, Option, Some, None, slice_get, IsTrue, ◌↔◌, inl, inr, ◌⊎◌, refl, sym, ap, ◌∙◌, subst, arith, true≢false}
use Rattle.std.specs.List.{AllByRecursion}
use Rattle.std.proofs.lemmas.Bool.{and_parts}
use Rattle.std.proofs.lemmas.Bool.Decides.{nat_tests}
use Rattle.mcs_sets.specs.Sets.{has, members, single, union, such_that}
use Rattle.mcs_sets.specs.Orders.{StateBefore}
use Rattle.mcs_sets.proofs.SetLemmas.{same_set, has-empty, has-single, has-union, has-such_that, members_below}
use Rattle.mcs_base.specs.Listings.{IsAmong, IsAscending, IsListing}
use Rattle.mcs_base.proofs.ListingLemmas.{all_among, all_from_among, members_listing}
use Rattle.mcs_system.specs.Plain.{Context, Read, System}
use Rattle.mcs_system.specs.Logic.{Believes, Accepts, with_heads}
use Rattle.mcs_system.specs.Systems.{variables, variables_of, heads_into, IsVariable, IsAcceptedPart}
use Rattle.mcs_system.specs.Views.{Shows, IsAcceptedView, belief_of, belief_at, beliefs_at, at_places_from, at_places}
use Rattle.mcs_base.proofs.Among.{get_among, among_get, among_map, map_among}
use Rattle.std.proofs.lemmas.Option.{slice_get_within}
use Rattle.mcs_base.proofs.Lists.{slice_get_below, slice_get-map_some, map_slice_get}
use Rattle.mcs_system.proofs.VariableLemmas.{has-variables_of}
use Rattle.mcs_laws.specs.Laws.{PartsAreViews, ViewListingsGivePartListings}
use Rattle.mcs_base.proofs.Distinct.{one_place, ascending_distinct}
use Rattle.std.specs.Cmp.{both_ways}
use Rattle.mcs_system.proofs.ContextSets.{variables_of-lt}
use Rattle.mcs_base.proofs.Ranges.{IsLater, later, split, rising}

-- ---- members at places
has-at_places_from : (k : ℕ) (vs : List ℕ) (places v : ℕ) → IsTrue (has (at_places_from k vs places) v) ↔ IsLater k vs places v
has-at_places_from k [] places v = (λ h. absurd (true≢false (sym h ∙ has-empty v)), λ (j, is, at). let no : None ≡ Some v = is in absurd (cc))
has-at_places_from k (w ∷ vs) places v = by (has places k) refl (has-at_places_from (k + 1) vs places v)
  where
    with_first : has (union (single w) (at_places_from (k + 1) vs places)) v ≡ (eqb v w || has (at_places_from (k + 1) vs places) v)
    with_first = has-union (single w) _ v ∙ ap (λ b. b || has (at_places_from (k + 1) vs places) v) (has-single w v)

    either : (a b : Bool) → (a || b) ≡ true → (a ≡ true) ⊎ (b ≡ true)
    either true b h = inl refl
    either false b h = inr h

    second : (a b : Bool) → b ≡ true → (a || b) ≡ true
    second true b h = refl
    second false b h = h

    by : (here : Bool) → has places k ≡ here → IsTrue (has (at_places_from (k + 1) vs places) v) ↔ IsLater (k + 1) vs places v
        → IsTrue (has (cond here (union (single w) (at_places_from (k + 1) vs places)) (at_places_from (k + 1) vs places)) v) ↔ IsLater k (w ∷ vs) places v
    by true e rest = (
      λ h. elim (either (eqb v w) (has (at_places_from (k + 1) vs places) v) (sym with_first ∙ h)) [
        | inl same ↦ let own : w ≡ v = grind (arith, nat_tests) in let z : k ≡ k + 0 = omega arith in (0, ap (λ u. Some u) own, subst (λ (i : ℕ). IsTrue (has places i)) z e)
        | inr more ↦ later k w vs places v (rest.0 more)
      ],
      λ h. with_first ∙ elim (split k w vs places v h) [
        | inl both ↦ (let own : w ≡ v = both.0 in let t : eqb v w ≡ true = grind (arith, nat_tests) in rw t refl)
        | inr more ↦ second (eqb v w) _ (rest.1 more)
      ],
    )
    by false e rest = (
      λ h. later k w vs places v (rest.0 h),
      λ h. elim (split k w vs places v h) [ inl both ↦ absurd (true≢false (sym both.1 ∙ e)) | inr more ↦ rest.1 more ],
    )

pub has-at_places : (set places v : ℕ) → IsTrue (has (at_places set places) v) ↔ ((j : ℕ) × (slice_get (members set) j ≡ Some v) × IsTrue (has places j))
has-at_places set places v = let all = has-at_places_from 0 (members set) places v in (
  λ h. (let (j, is, at) = all.0 h in let e : 0 + j ≡ j = omega arith in (j, is, subst (λ (i : ℕ). IsTrue (has places i)) e at)),
  λ (j, is, at). all.1 (let e : j ≡ 0 + j = omega arith in (j, is, subst (λ (i : ℕ). IsTrue (has places i)) e at)),
)

-- ---- the variables of a context and their beliefs
-- a member is a variable of the context
variable-at : (m : System) (i k v : ℕ) → slice_get (members (variables_of m i)) k ≡ Some v → (r : Read) × IsVariable m v r × (r.context ≡ i)
variable-at m i k v is =
    let h : has (variables_of m i) v ≡ true = ((members_listing (variables_of m i)).exactly v).0 (among_get v _ k is) in
    let less : v < length (variables m) = members_below (variables_of m i) (length (variables m)) v (variables_of-lt m i) h in
    let (r, var) = slice_get_below (variables m) v less in
    let own : eqb r.context i ≡ true = sym (has-variables_of m i v r var) ∙ h in
    (r, var, grind (arith, nat_tests))

-- and each variable of the context is a member
place-of : (m : System) (i v : ℕ) (r : Read) → IsVariable m v r → r.context ≡ i → (k : ℕ) × (slice_get (members (variables_of m i)) k ≡ Some v)
place-of m i v r var own = let t : eqb r.context i ≡ true = grind (arith, nat_tests) in
    get_among v _ (((members_listing (variables_of m i)).exactly v).1 (has-variables_of m i v r var ∙ t))

belief-is : (m : System) (v : ℕ) (r : Read) → IsVariable m v r → belief_at m v ≡ r.belief
belief-is m v r var = ap belief_of var

module _ (m : System) (i x τ : ℕ) (c : Context) (is_c : slice_get m.contexts i ≡ Some c) where
  abbrev vars : ℕ
  vars = variables_of m i

  -- ---- from a part to a view
  module _ (h : IsAcceptedPart m i x τ) where
    abbrev is_in_part : Option ℕ → Bool
    is_in_part None = false
    is_in_part (Some v) = has τ v

    abbrev part_places : ℕ
    part_places = such_that (length (members vars)) (λ k. is_in_part (slice_get (members vars) k))

    at_place : (k v : ℕ) → slice_get (members vars) k ≡ Some v → has part_places k ≡ has τ v
    at_place k v is = let less = slice_get_within (members vars) k v is in let t : ltb k (length (members vars)) ≡ true = grind (arith, nat_tests) in
        has-such_that (length (members vars)) (λ j. is_in_part (slice_get (members vars) j)) k ∙ rw (t, is) refl

    some_place : (k : ℕ) → has part_places k ≡ true → (v : ℕ) × (slice_get (members vars) k ≡ Some v) × (has τ v ≡ true)
    some_place k is = at (slice_get (members vars) k) refl
      where
        inside : is_in_part (slice_get (members vars) k) ≡ true
        inside = (and_parts (ltb k (length (members vars))) (is_in_part (slice_get (members vars) k)) (sym (has-such_that (length (members vars)) (λ j. is_in_part (slice_get (members vars) j)) k) ∙ is)).1

        at : (o : Option ℕ) → slice_get (members vars) k ≡ o → (v : ℕ) × (slice_get (members vars) k ≡ Some v) × (has τ v ≡ true)
        at None e = absurd (true≢false (sym inside ∙ ap is_in_part e))
        at (Some v) e = (v, e, sym (ap is_in_part e) ∙ inside)

    part_shown : Shows h.belief (beliefs_at m vars) part_places
    part_shown k = (
      λ is. (let (v, at, inside) = some_place k is in let (r, var, own, believes) = (h.part v).0 inside in
          (belief_at m v, slice_get-map_some (belief_at m) (members vars) k v at, subst (Believes h.belief) (sym (belief-is m v r var)) believes)),
      λ (p, is, believes). (let (v, at, same) = map_slice_get (belief_at m) (members vars) k p is in let (r, var, own) = variable-at m i k v at in
          at_place k v at ∙ (h.part v).1 (r, var, own, subst (Believes h.belief) (sym same ∙ belief-is m v r var) believes)),
    )

    part_is : τ ≡ at_places vars part_places
    part_is = same_set τ _ (λ v. both_ways _ _ (to v) (from v))
      where
        to : (v : ℕ) → has τ v ≡ true → has (at_places vars part_places) v ≡ true
        to v inside = let (r, var, own, believes) = (h.part v).0 inside in let (k, at) = place-of m i v r var own in
            (has-at_places vars part_places v).1 (k, at, at_place k v at ∙ inside)

        from : (v : ℕ) → has (at_places vars part_places) v ≡ true → has τ v ≡ true
        from v inside = let (k, at, on) = (has-at_places vars part_places v).0 inside in sym (at_place k v at) ∙ on

    pub view_of_part : (places : ℕ) × IsAcceptedView (with_heads c.kb (heads_into m i x)) (beliefs_at m vars) places × (τ ≡ at_places vars places)
    view_of_part = (part_places, record { belief_set = h.belief; accepted = accepts; shown = part_shown }, part_is)
      where
        accepts : Accepts (with_heads c.kb (heads_into m i x)) h.belief
        accepts = let (d, is_d, a) = h.accepted in let same : d ≡ c = (let e : Some d ≡ Some c = sym is_d ∙ is_c in cc) in subst (λ (e : Context). Accepts (with_heads e.kb (heads_into m i x)) h.belief) same a

  -- ---- from a view to a part
  pub part_of_view : (places : ℕ) → IsAcceptedView (with_heads c.kb (heads_into m i x)) (beliefs_at m vars) places → τ ≡ at_places vars places → IsAcceptedPart m i x τ
  part_of_view places view same = record {
    belief = view.belief_set;
    accepted = (c, is_c, view.accepted);
    part = λ v. (to v, from v);
  }
    where
      to : (v : ℕ) → has τ v ≡ true → (r : Read) × IsVariable m v r × (r.context ≡ i) × Believes view.belief_set r.belief
      to v inside =
          let (k, at, on) = (has-at_places vars places v).0 (sym (ap (λ s. has s v) same) ∙ inside) in
          let (p, is, believes) = (view.shown k).0 on in
          let (w, at', is_p) = map_slice_get (belief_at m) (members vars) k p is in
          let (r, var, own) = variable-at m i k v at in
          let one : w ≡ v = (let e : Some w ≡ Some v = sym at' ∙ at in cc) in
          (r, var, own, subst (Believes view.belief_set) (sym is_p ∙ ap (belief_at m) one ∙ belief-is m v r var) believes)

      from : (v : ℕ) → ((r : Read) × IsVariable m v r × (r.context ≡ i) × Believes view.belief_set r.belief) → has τ v ≡ true
      from v (r, var, own, believes) =
          let (k, at) = place-of m i v r var own in
          let on = (view.shown k).1 (belief_at m v, slice_get-map_some (belief_at m) (members vars) k v at, subst (Believes view.belief_set) (sym (belief-is m v r var)) believes) in
          ap (λ s. has s v) same ∙ (has-at_places vars places v).1 (k, at, on)

pub parts_are_views : PartsAreViews
parts_are_views m i x τ c is = (λ h. view_of_part m i x τ c is h, λ (places, view, same). part_of_view m i x τ c is places view same)

-- ---- the order of places is that of the members at them
places_before : (set p q : ℕ) (b : StateBefore p q) → (v : ℕ) → slice_get (members set) b.at ≡ Some v → StateBefore (at_places set p) (at_places set q)
places_before set p q b v is = record {
  at = v;
  in_first = (has-at_places set p v).1 (b.at, is, b.in_first);
  not_in_second = absent (has (at_places set q) v) refl;
  same_below = λ u less. both_ways _ _ (moved p q (λ j low. b.same_below j low) u less) (moved q p (λ j low. sym (b.same_below j low)) u less);
}
  where
    ordered : IsAscending (λ a b. a < b) (members set)
    ordered = (members_listing set).ascending

    absent : (o : Bool) → has (at_places set q) v ≡ o → o ≡ false
    absent true e = absurd (let (j, at, on) = (has-at_places set q v).0 e in let same : j ≡ b.at = one_place (members set) (ascending_distinct (members set) ordered) j b.at v at is in true≢false (sym on ∙ ap (has q) same ∙ b.not_in_second))
    absent false e = refl

    moved : (s t : ℕ) → ((j : ℕ) → j < b.at → has s j ≡ has t j) → (u : ℕ) → u < v → has (at_places set s) u ≡ true → has (at_places set t) u ≡ true
    moved s t same u less inside = let (j, at, on) = (has-at_places set s u).0 inside in
        let low : j < b.at = rising (members set) ordered j b.at u v at is less in (has-at_places set t u).1 (j, at, sym (same j low) ∙ on)

-- ---- listings
module _ (m : System) (i x : ℕ) (c : Context) (is_c : slice_get m.contexts i ≡ Some c) where
  abbrev IsView : ℕ → Type 0
  IsView = IsAcceptedView (with_heads c.kb (heads_into m i x)) (beliefs_at m (variables_of m i))

  abbrev part : ℕ → ℕ
  part = at_places (variables_of m i)

  view_before : (p q : ℕ) → IsView p → StateBefore p q → StateBefore (part p) (part q)
  view_before p q view b =
      let (f, is, believes) = (view.shown b.at).0 b.in_first in
      let (v, at, same) = map_slice_get (belief_at m) (members (variables_of m i)) b.at f is in
      places_before (variables_of m i) p q b v at

  parts_ascend : (views : List ℕ) → AllByRecursion IsView views → IsAscending StateBefore views → IsAscending StateBefore (map part views)
  parts_ascend [] all h = tt
  parts_ascend (p ∷ views) all h = (
    all_from_among (StateBefore (part p)) (map part views) (λ τ among. let (q, inside, e) = map_among part τ views among in subst (StateBefore (part p)) (sym e) (view_before p q all.0 (all_among (StateBefore p) views q h.0 inside))),
    parts_ascend views all.1 h.1,
  )

  pub parts_listed : (views : List ℕ) → IsListing IsView StateBefore views → IsListing (IsAcceptedPart m i x) StateBefore (map part views)
  parts_listed views listing = record {
    exactly = λ τ. (
      λ among. (let (p, inside, e) = map_among part τ views among in part_of_view m i x τ c is_c p ((listing.exactly p).0 inside) e),
      λ h. (let (p, view, e) = view_of_part m i x τ c is_c h in subst (λ t. IsAmong t (map part views)) (sym e) (among_map part p views ((listing.exactly p).1 view))),
    );
    ascending = parts_ascend views (all_from_among IsView views (λ p inside. (listing.exactly p).0 inside)) listing.ascending;
  }

pub view_listings : ViewListingsGivePartListings
view_listings m i x c views is listing = parts_listed m i x c is views listing
