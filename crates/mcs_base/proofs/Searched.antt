-- What a search in a list of numbers that ascends tells: whether one is among them.
use Rattle.std.proofs.Common.{◌≡◌, ℕ, ◌<◌, ◌≤◌, Bool, true, false, IsTrue, Result, Ok, Err, is_ok, List, [], ◌∷◌, ◌++◌, length, get_or, sym, ap, ◌∙◌, subst, inl, inr, ◌⊎◌, ◌↔◌, arith, true≢false}
use Rattle.std.proofs.lemmas.Bool.{cases_lt}
use Rattle.std.proofs.lemmas.List.Sorted.{searched}
use Rattle.std.specs.List.Sorted.{IsBinarySearchResult}
use Rattle.std.specs.Ordering.{nat_cmp}
use Rattle.mcs_base.specs.Listings.{IsAmong, IsAscending}
use Rattle.mcs_base.proofs.Among.{among_at, among_push, place_among}
use Rattle.mcs_base.proofs.ListingLemmas.{ascending_at}

rising : (xs : List ℕ) → IsAscending (λ (a b : ℕ). a < b) xs → (i j : ℕ) → i ≤ j → j < length xs → get_or xs i 0 ≤ get_or xs j 0
rising xs up i j le below = elim (cases_lt i j) [
  | inl less ↦ let e : get_or xs i 0 < get_or xs j 0 = ascending_at (λ (a b : ℕ). a < b) xs i j 0 less below up in omega arith
  | inr past ↦ let same : i ≡ j = omega arith in omega (arith, ap (λ (k : ℕ). get_or xs k 0) same)
]

pub found_listed : (xs : List ℕ) (x : ℕ) → IsAscending (λ (a b : ℕ). a < b) xs → (r : Result ℕ ℕ) → IsBinarySearchResult (λ y. nat_cmp y x) xs r → (b : Bool) → b ≡ is_ok r → IsTrue b ↔ IsAmong x xs
found_listed xs x up (Ok i) found b is =
    let (within, here) = searched xs x (Ok i) found (rising xs up) in
    (λ h. subst (λ (z : ℕ). IsAmong z xs) here (among_at xs i 0 within), λ h. is)
found_listed xs x up (Err i) found b is = (λ h. absurd (true≢false (sym h ∙ is)), λ h. absurd (apart h))
  where
    apart : IsAmong x xs → ⊥
    apart h =
        let (within, before, after) = searched xs x (Err i) found (rising xs up) in
        let (k, below, same) = place_among xs x h in
        elim (cases_lt k i) [
          | inl less ↦ let e = before k less in omega (arith, e, same 0)
          | inr past ↦ let e = after k past below in omega (arith, e, same 0)
        ]

-- one more, where it is not among the others
pub added_new : (found reached : List ℕ) (s : ℕ) (next : List ℕ) → next ≡ found ++ s ∷ [] → (b : Bool) → IsTrue b ↔ IsAmong s reached → b ≡ false → (x : ℕ) → IsAmong x next ↔ (IsAmong x found ⊎ ((x ≡ s) × (¬ IsAmong x reached)))
added_new found reached s next is true listed fresh x = absurd (true≢false fresh)
added_new found reached s next is false listed fresh x = (
  λ h. elim ((among_push x found s).0 (subst (λ (ys : List ℕ). IsAmong x ys) is h)) [
    | inl old ↦ inl old
    | inr e ↦ inr (e, λ here. true≢false (sym (listed.1 (subst (λ (z : ℕ). IsAmong z reached) e here))))
  ],
  λ h. subst (λ (ys : List ℕ). IsAmong x ys) (sym is) ((among_push x found s).1 (elim h [ inl old ↦ inl old | inr (e, new) ↦ inr e ])),
)
