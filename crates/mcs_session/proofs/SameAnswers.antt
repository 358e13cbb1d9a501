-- Questions with one key have the same answers, which are kept as views.
use Rattle.std.proofs.Common.{◌≡◌, ℕ, ◌<◌, true, eqb, arith, inl, inr, List, [], ◌∷◌, map, length, Some, slice_get, refl, sym, ap, ◌∙◌, subst}
use Rattle.std.proofs.lemmas.Bool.Decides.{nat_tests}
use Rattle.std.proofs.lemmas.List.{length-map}
use Rattle.std.proofs.lemmas.Option.{slice_get_within}
use Rattle.mcs_sets.specs.Sets.{has, members, Within}
use Rattle.mcs_sets.specs.Orders.{StateBefore}
use Rattle.mcs_base.specs.Listings.{IsAmong, IsAscending, IsListing}
use Rattle.mcs_base.proofs.Among.{among_map, map_among}
use Rattle.mcs_base.proofs.ListingLemmas.{all_among, all_from_among}
use Rattle.mcs_system.specs.Plain.{Context, System}
use Rattle.mcs_system.specs.Logic.{with_heads}
use Rattle.mcs_system.specs.Systems.{variables_of, heads_into, IsAcceptedPart}
use Rattle.mcs_system.specs.Views.{IsAcceptedView, belief_at, beliefs_at, at_places}
use Rattle.mcs_system.proofs.VariableLemmas.{has-variables_of}
use Rattle.mcs_laws.proofs.Views.{view_of_part, part_of_view, parts_listed}
use Rattle.mcs_session.specs.Keys.{Key, key_of, places_in, IsAnswer}
use Rattle.mcs_session.specs.Laws.{SameKeysHaveSameAnswers, ViewsGiveAnswers, AnswersGiveViews}
use Rattle.mcs_session.proofs.PlaceLemmas.{places_again, places_before}

-- the places that a view shows are places of beliefs
view_within : (m : System) (i x places : ℕ) (c : Context) → IsAcceptedView (with_heads c.kb (heads_into m i x)) (beliefs_at m (variables_of m i)) places
    → (k : ℕ) → has places k ≡ true → k < length (members (variables_of m i))
view_within m i x places c view k is = let (p, there, believes) = (view.shown k).0 is in
    subst (λ n. k < n) (length-map (members (variables_of m i)) (belief_at m)) (slice_get_within (beliefs_at m (variables_of m i)) k p there)

module _ (m : System) (i x : ℕ) (c : Context) (is_c : slice_get m.contexts i ≡ Some c) where
  abbrev IsView : ℕ → Type 0
  IsView = IsAcceptedView (with_heads c.kb (heads_into m i x)) (beliefs_at m (variables_of m i))

  abbrev places_of : ℕ → ℕ
  places_of = places_in (variables_of m i)

  abbrev part_at : ℕ → ℕ
  part_at = at_places (variables_of m i)

  there_and_back : (p : ℕ) → IsView p → places_of (part_at p) ≡ p
  there_and_back p view = places_again (variables_of m i) p (view_within m i x p c view)

  pub places_view : (τ : ℕ) → IsAcceptedPart m i x τ → IsView (places_of τ)
  places_view τ h = let (p, view, same) = view_of_part m i x τ c is_c h in subst IsView (sym (ap places_of same ∙ there_and_back p view)) view

  pub view_part : (p : ℕ) → IsView p → IsAcceptedPart m i x (part_at p)
  view_part p view = part_of_view m i x (part_at p) c is_c p view refl

  pub answer_is_view : (p : ℕ) → IsAnswer m i x p → IsView p
  answer_is_view p a = subst IsView (sym a.places_are) (places_view a.part a.accepted)

  pub view_is_answer : (p : ℕ) → IsView p → IsAnswer m i x p
  view_is_answer p view = record { part = part_at p; accepted = view_part p view; places_are = sym (there_and_back p view) }

  -- ---- listings
  part_within : (τ : ℕ) → IsAcceptedPart m i x τ → Within τ (variables_of m i)
  part_within τ h v inside = let (r, var, own, believes) = (h.part v).0 inside in has-variables_of m i v r var ∙ own_test r.context own
    where
      own_test : (j : ℕ) → j ≡ i → eqb j i ≡ true
      own_test j same = grind (arith, nat_tests)

  ascend : (parts : List ℕ) → ((τ : ℕ) → IsAmong τ parts → IsAcceptedPart m i x τ) → IsAscending StateBefore parts → IsAscending StateBefore (map places_of parts)
  ascend [] all up = tt
  ascend (τ ∷ parts) all up = (
    all_from_among (StateBefore (places_of τ)) (map places_of parts) (λ p among. let (u, inside, e) = map_among places_of p parts among in
        subst (StateBefore (places_of τ)) (sym e) (places_before (variables_of m i) τ u (part_within τ (all τ (inl refl))) (all_among (StateBefore τ) parts u up.0 inside))),
    ascend parts (λ u inside. all u (inr inside)) up.1,
  )

  pub views_listed : (parts : List ℕ) → IsListing (IsAcceptedPart m i x) StateBefore parts → IsListing IsView StateBefore (map places_of parts)
  views_listed parts listing = record {
    exactly = λ p. (
      λ among. (let (τ, inside, e) = map_among places_of p parts among in subst IsView (sym e) (places_view τ ((listing.exactly τ).0 inside))),
      λ view. subst (λ q. IsAmong q (map places_of parts)) (there_and_back p view) (among_map places_of (part_at p) parts ((listing.exactly (part_at p)).1 (view_part p view))),
    );
    ascending = ascend parts (λ τ inside. (listing.exactly τ).0 inside) listing.ascending;
  }

-- ---- the laws
pub answers_give_views : AnswersGiveViews
answers_give_views m i x c parts is_c listing = record { context = c; is_it = is_c; listed = views_listed m i x c is_c parts listing }

pub views_give_answers : ViewsGiveAnswers
views_give_answers m i x views v = parts_listed m i x v.context v.is_it views v.listed

-- what a knowledge base is asked is in the key
moved : (m n : System) (i x j y : ℕ) → m.contexts ≡ n.contexts → key_of m i x ≡ key_of n j y → (p : ℕ) → IsAnswer m i x p → IsAnswer n j y p
moved m n i x j y same keys p a = let (c, is_c, accepts) = a.accepted.accepted in
    let here : slice_get n.contexts j ≡ Some c = ap (λ cs. slice_get cs j) (sym same) ∙ ap (λ (k : Key). slice_get m.contexts k.context) (sym keys) ∙ is_c in
    view_is_answer n j y c here p (subst (λ (k : Key). IsAcceptedView (with_heads c.kb k.heads) k.beliefs p) keys (answer_is_view m i x c is_c p a))

pub same_answers : SameKeysHaveSameAnswers
same_answers m n i x j y same keys p = (moved m n i x j y same keys p, moved n m j y i x (sym same) (sym keys) p)
