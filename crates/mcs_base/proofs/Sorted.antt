-- Of lists in order and of listings: fronts, what comes after, the first one, how long they are; and what is minimal, by what there is.
use Rattle.std.proofs.Common.{◌≡◌, ℕ, ◌<◌, ◌≤◌, zero, suc, true, eqb, List, [], ◌∷◌, filter, length, take, get_or, arith, refl, sym, subst, inl, inr, ◌⊎◌, ◌↔◌}
use Rattle.std.proofs.lemmas.Bool.Decides.{nat_tests}
use Rattle.std.specs.List.{AllByRecursion}
use Rattle.mcs_sets.specs.Sets.{size}
use Rattle.mcs_base.specs.Listings.{IsAmong, IsAscending, IsInventory, IsListing}
use Rattle.mcs_base.specs.Minimal.{IsMinimal}
use Rattle.mcs_base.proofs.Among.{take_among}
use Rattle.mcs_base.proofs.Each.{all_among, all_from_among, all_weaker}
use Rattle.mcs_base.proofs.Distinct.{distinct_fits, ascending_distinct}
use Rattle.mcs_base.proofs.ListingLemmas.{IsListing-filter, IsListing-same, minimal_same}

module _ {A : Type 0} (before : A → A → Type 0) where
  pub ascending_take : (xs : List A) (k : ℕ) → IsAscending before xs → IsAscending before (take k xs)
  ascending_take [] zero up = tt
  ascending_take [] (suc k) up = tt
  ascending_take (x ∷ xs) zero up = tt
  ascending_take (x ∷ xs) (suc k) up = (all_from_among (before x) (take k xs) (λ y among. all_among (before x) xs y up.0 (take_among xs k y among)), ascending_take xs k up.1)

  -- in a total order what does not come before it and is not it comes after it
  pub all_after : ((x y z : A) → before x y → before y z → before x z) → ((x y : A) → (x ≡ y) ⊎ (before x y ⊎ before y x)) → (x d : A) (xs : List A)
      → IsAscending before xs → ¬ IsAmong x xs → (0 < length xs → ¬ before (get_or xs 0 d) x) → AllByRecursion (before x) xs
  all_after transitive total x d [] up new late = tt
  all_after transitive total x d (y ∷ ys) up new late = (first, all_weaker (before y) (before x) (λ z h. transitive x y z first h) ys up.0)
    where
      first : before x y
      first = elim (total x y) [ inl same ↦ absurd (new (inl same)) | inr either ↦ elim either [ inl h ↦ h | inr h ↦ absurd (late (omega arith) h) ] ]

  -- the first of a listing is one of those that are listed
  pub first_is_one : (P : A → Type 0) (xs ys : List A) (x : A) → ys ≡ xs → 1 ≤ length ys → x ≡ get_or ys 0 x → IsListing P before xs → P x
  first_is_one P xs [] x same some is l = absurd (omega arith)
  first_is_one P xs (y ∷ ys) x same some is l = subst P (sym is) ((l.exactly y).0 (subst (IsAmong y) same (inl refl)))

-- ---- those with so many members
abbrev pub of_size : ℕ → List ℕ → List ℕ
of_size n sets = filter (λ s. eqb (size s) n) sets

pub IsListing-of_size : (P : ℕ → Type 0) (before : ℕ → ℕ → Type 0) (n : ℕ) (xs : List ℕ) → IsListing (λ s. P s × (size s ≤ n)) before xs → IsListing (λ s. P s × (size s ≡ n)) before (of_size n xs)
IsListing-of_size P before n xs l = IsListing-same before _ _ (of_size n xs) (λ s. (
  λ h. (h.0.0, let is : eqb (size s) n ≡ true = h.1 in grind (arith, nat_tests)),
  λ h. ((h.0, omega (arith, h.1)), let e = h.1 in let is : eqb (size s) n ≡ true = grind (arith, nat_tests) in is),
)) (IsListing-filter before _ (λ s. eqb (size s) n) xs l)

-- ---- what is minimal, and how long lists are
pub minimal_iff : (P Q : ℕ → Type 0) → ((s : ℕ) → P s ↔ Q s) → (s : ℕ) → IsMinimal P s ↔ IsMinimal Q s
minimal_iff P Q same s = (minimal_same P Q same s, minimal_same Q P (λ t. ((same t).1, (same t).0)) s)

-- an inventory is as long as a listing of the same
pub inventory_fits : (xs ys : List ℕ) → IsInventory (λ x. IsAmong x ys) xs → IsAscending (λ a b. a < b) ys → length xs ≡ length ys
inventory_fits xs ys inventory up =
    let most = distinct_fits xs ys inventory.apart (λ x h. (inventory.exactly x).0 h) in
    let least = distinct_fits ys xs (ascending_distinct ys up) (λ x h. (inventory.exactly x).1 h) in
    omega (arith, most, least)
