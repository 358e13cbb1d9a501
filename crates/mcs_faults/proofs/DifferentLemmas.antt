-- Lists without repeats: two with the same values have one length.
use Rattle.std.proofs.Common.{◌≡◌, ℕ, List, [], ◌∷◌, ◌++◌, map, length, get_or, Some, sym, ap, ◌∙◌, subst, inl, inr, ◌⊎◌, ◌↔◌, arith, slice_get}
use Rattle.std.specs.Prelude.{IsTrue}
use Rattle.std.proofs.lemmas.Option.{get_or_from_slice_get}
use Rattle.std.proofs.lemmas.List.{length-map}
use Rattle.mcs_base.specs.Listings.{IsAmong}
use Rattle.mcs_base.proofs.ListingLemmas.{members_listing}
use Rattle.mcs_sets.specs.Sets.{has, members, size}
use Rattle.mcs_base.proofs.Among.{map_among, among_map, among_push, get_among}
use Rattle.mcs_base.proofs.Distinct.{distinct_fits, distinct_push, ascending_distinct, distinct_map, one_place}
use Rattle.mcs_grammar.specs.Faults.{AreDifferent}
use Rattle.mcs_faults.specs.Watching.{ListsEach}

module _ {A : Type 0} where
  pub same-length : (xs ys : List A) (P : A → Type 0) → ListsEach xs P → ListsEach ys P → length xs ≡ length ys
  same-length xs ys P l l' =
      let a = distinct_fits xs ys l.0 (λ x h. (l'.1 x).1 ((l.1 x).0 h)) in
      let b = distinct_fits ys xs l'.0 (λ x h. (l.1 x).1 ((l'.1 x).0 h)) in
      omega arith

  -- the same values still, or one more
  pub lists-same : (xs : List A) (P Q : A → Type 0) → ((x : A) → P x ↔ Q x) → ListsEach xs P → ListsEach xs Q
  lists-same xs P Q same l = (l.0, λ x. (λ h. (same x).0 ((l.1 x).0 h), λ q. (l.1 x).1 ((same x).1 q)))

  pub lists-more : (xs : List A) (P Q : A → Type 0) (x : A) → ((y : A) → Q y ↔ (P y ⊎ (y ≡ x))) → ¬ IsAmong x xs → ListsEach xs P → ListsEach (xs ++ x ∷ []) Q
  lists-more xs P Q x more new l = (
    distinct_push xs x l.0 new,
    λ y. (
      λ h. (more y).1 (elim ((among_push y xs x).0 h) [ inl there ↦ inl ((l.1 y).0 there) | inr e ↦ inr e ]),
      λ q. (among_push y xs x).1 (elim ((more y).0 q) [ inl p ↦ inl ((l.1 y).1 p) | inr e ↦ inr e ]),
    ),
  )

-- the values at the places of a set: as many as it has
pub values-at : {A : Type 0} (xs : List A) (d : A) (s : ℕ) (P : A → Type 0) → AreDifferent xs → ((k : ℕ) → IsTrue (has s k) ↔ ((x : A) × (slice_get xs k ≡ Some x) × P x)) → ((x : A) → P x → IsAmong x xs)
    → (ys : List A) × ListsEach ys P × (length ys ≡ size s)
values-at {A} xs d s P different at there =
    let listing = members_listing s in
    let f : ℕ → A = λ (k : ℕ). get_or xs k d in
    let place : (k : ℕ) → IsAmong k (members s) → (x : A) × (slice_get xs k ≡ Some x) × P x = λ k h. (at k).0 ((listing.exactly k).0 h) in
    let value : (k : ℕ) (x : A) → slice_get xs k ≡ Some x → f k ≡ x = λ k x is. get_or_from_slice_get xs k x d is in (
      map f (members s),
      (
        distinct_map f (members s) (λ k l a b e.
            let (x, at_k, p) = place k a in let (y, at_l, q) = place l b in
            let same : x ≡ y = sym (value k x at_k) ∙ e ∙ value l y at_l in
            one_place xs different k l y (at_k ∙ ap (λ z. Some z) same) at_l)
            (ascending_distinct (members s) listing.ascending),
        λ x. (
          λ h. let (k, among, e) = map_among f x (members s) h in let (y, at_k, p) = place k among in subst P (sym (value k y at_k) ∙ sym e) p,
          λ p. let (k, at_k) = get_among x xs (there x p) in
              subst (λ (y : A). IsAmong y (map f (members s))) (value k x at_k) (among_map f k (members s) ((listing.exactly k).1 ((at k).1 (x, at_k, p)))),
        ),
      ),
      length-map (members s) f,
    )
