-- What is decided where its parts are, and the places in a list of what has a decided property.
use Rattle.std.proofs.Common.{◌≡◌, ℕ, zero, suc, ◌<◌, ◌≤◌, ◌^◌, Bool, true, false, not, ◌&&◌, ◌||◌, ◌==◌, ltb, List, [], ◌∷◌, length, Option, Some, None, slice_get, IsTrue, refl, sym, ◌∙◌, subst, inl, inr, ◌⊎◌, ◌↔◌, arith, true≢false}
use Rattle.std.specs.List.{AllByRecursion}
use Rattle.std.proofs.lemmas.Bool.{and_parts, cases_eq, cases_lt}
use Rattle.std.proofs.lemmas.Bool.Decides.{nat_tests}
use Rattle.std.proofs.lemmas.Option.{slice_get_within}
use Rattle.mcs_sets.specs.Sets.{has, such_that, Within}
use Rattle.mcs_sets.proofs.SetLemmas.{has-such_that, such_that-lt, Within-le}
use Rattle.mcs_base.specs.Listings.{IsAmong}
use Rattle.mcs_base.proofs.Among.{get_among}
use Rattle.mcs_base.proofs.Booleans.{test_of, test_of-tells, cases_all_below}
use Rattle.mcs_base.proofs.Each.{all_from_among}
use Rattle.mcs_sets.proofs.Lattice.{cases_within}
use Rattle.mcs_base.specs.Minimal.{IsMinimal}

-- ---- propositions
pub cases_not : {P : Type 0} → P ⊎ (¬ P) → (¬ P) ⊎ (¬ (¬ P))
cases_not (inl h) = inr (λ never. never h)
cases_not (inr never) = inl never

pub cases_both : {P Q : Type 0} → P ⊎ (¬ P) → Q ⊎ (¬ Q) → (P × Q) ⊎ (¬ (P × Q))
cases_both (inl p) (inl q) = inl (p, q)
cases_both (inl p) (inr never) = inr (λ h. never h.1)
cases_both (inr never) d = inr (λ h. never h.0)

pub cases_implies : {P Q : Type 0} → P ⊎ (¬ P) → Q ⊎ (¬ Q) → (P → Q) ⊎ (¬ (P → Q))
cases_implies p (inl q) = inl (λ _. q)
cases_implies (inl p) (inr never) = inr (λ f. never (f p))
cases_implies (inr never) (inr _) = inl (λ p. absurd (never p))

pub cases_true : (b : Bool) → (b ≡ true) ⊎ (¬ (b ≡ true))
cases_true true = inl refl
cases_true false = inr (λ e. true≢false (sym e))

pub cases_false : (b : Bool) → (b ≡ false) ⊎ (¬ (b ≡ false))
cases_false true = inr true≢false
cases_false false = inl refl

pub cases_le : (a b : ℕ) → (a ≤ b) ⊎ (¬ (a ≤ b))
cases_le a b = elim (cases_lt b a) [ inl less ↦ inr (λ h. omega (arith, less, h)) | inr most ↦ inl (omega (arith, most)) ]

-- ---- what holds of each, and of some
pub cases_all : {A : Type 0} (P : A → Type 0) (xs : List A) → ((x : A) → P x ⊎ (¬ P x)) → AllByRecursion P xs ⊎ (¬ AllByRecursion P xs)
cases_all P [] each = inl tt
cases_all P (x ∷ xs) each = elim (each x) [
  | inr never ↦ inr (λ all. never all.0)
  | inl here ↦ elim (cases_all P xs each) [ inl rest ↦ inl (here, rest) | inr never ↦ inr (λ all. never all.1) ]
]

pub cases_all_get : {A : Type 0} (P : ℕ → A → Type 0) (xs : List A) → ((k : ℕ) (x : A) → P k x ⊎ (¬ P k x)) → ((k : ℕ) (x : A) → slice_get xs k ≡ Some x → P k x) ⊎ (¬ ((k : ℕ) (x : A) → slice_get xs k ≡ Some x → P k x))
cases_all_get P [] each = inl (λ k x is. absurd (let none : None ≡ Some x = is in cc))
cases_all_get {A} P (x ∷ xs) each = elim (each 0 x) [
  | inr never ↦ inr (λ all. never (all 0 x refl))
  | inl here ↦ elim (cases_all_get (λ k. P (suc k)) xs (λ k. each (suc k))) [
    | inr never ↦ inr (λ all. never (λ k y is. all (suc k) y is))
    | inl rest ↦ inl (first here rest)
  ]
]
  where
    first : P 0 x → ((k : ℕ) (y : A) → slice_get xs k ≡ Some y → P (suc k) y) → (k : ℕ) (y : A) → slice_get (x ∷ xs) k ≡ Some y → P k y
    first here rest zero y is = let same : x ≡ y = cc in subst (P 0) same here
    first here rest (suc k) y is = rest k y is

pub cases_some_below : (P : ℕ → Type 0) (n : ℕ) → ((i : ℕ) → P i ⊎ (¬ P i)) → ((i : ℕ) × (i < n) × P i) ⊎ (¬ ((i : ℕ) × (i < n) × P i))
cases_some_below P zero each = inr (λ (i, less, p). omega arith)
cases_some_below P (suc n) each = elim (each n) [
  | inl last ↦ inl (n, omega arith, last)
  | inr never ↦ elim (cases_some_below P n each) [
    | inl (i, less, p) ↦ inl (i, omega arith, p)
    | inr none ↦ inr (λ (i, less, p). elim (cases_eq i n) [ inl same ↦ never (subst P same p) | inr differ ↦ none (i, omega arith, p) ])
  ]
]

pub all_from_get : {A : Type 0} (P : A → Type 0) (xs : List A) → ((k : ℕ) (x : A) → slice_get xs k ≡ Some x → P x) → AllByRecursion P xs
all_from_get P xs each = all_from_among P xs (λ x among. let (k, is) = get_among x xs among in each k x is)

-- there is one of a list exactly where the list is not empty
pub some_where : {A : Type 0} (P : A → Type 0) (xs : List A) → ((x : A) → IsAmong x xs ↔ P x) → IsTrue (not (length xs == 0)) ↔ ((x : A) × P x)
some_where P [] same = (λ h. absurd (let none : ⊥ = grind (arith, nat_tests) in none), λ (x, p). absurd ((same x).1 p))
some_where P (y ∷ ys) same = (λ h. (y, (same y).0 (inl refl)), λ p. grind (arith, nat_tests))

-- ---- the places in a list of what has a decided property
module _ {A : Type 0} (Q : A → Type 0) (decides : (x : A) → Q x ⊎ (¬ Q x)) where
  test_at : Option A → Bool
  test_at None = false
  test_at (Some x) = test_of (decides x)

  pub places_where : List A → ℕ
  places_where xs = such_that (length xs) (λ k. test_at (slice_get xs k))

  pub places_where-lt : (xs : List A) → places_where xs < 2 ^ length xs
  unfolding places_where
  places_where-lt xs = such_that-lt (length xs) (λ k. test_at (slice_get xs k))

  pub has-places_where : (xs : List A) (k : ℕ) → IsTrue (has (places_where xs) k) ↔ ((x : A) × (slice_get xs k ≡ Some x) × Q x)
  unfolding places_where test_at
  has-places_where xs k = (
    λ member. to (slice_get xs k) refl (and_parts _ _ (sym (has-such_that (length xs) (λ j. test_at (slice_get xs j)) k) ∙ member)).1,
    λ (x, is, q). has-such_that (length xs) (λ j. test_at (slice_get xs j)) k ∙ from x is q,
  )
    where
      to : (o : Option A) → slice_get xs k ≡ o → test_at o ≡ true → (x : A) × (slice_get xs k ≡ Some x) × Q x
      to None e t = absurd (true≢false (sym t))
      to (Some x) e t = (x, e, (test_of-tells (decides x)).0 t)

      from : (x : A) → slice_get xs k ≡ Some x → Q x → (ltb k (length xs) && test_at (slice_get xs k)) ≡ true
      from x is q =
          let less = slice_get_within xs k x is in
          let e : ltb k (length xs) ≡ true = grind (arith, nat_tests) in
          rw (e, is) ((test_of-tells (decides x)).1 q)

-- ---- tests as they compute: of one, and of two of which the first implies the second
pub only_test : (x : Bool) → ((x || false) && true) ≡ true → x ≡ true
only_test true h = refl
only_test false h = h

pub test_with_implied : (x y : Bool) → ((not (x && true) || (y || false)) && ((x || false) && true)) ≡ true → (x ≡ true) × (y ≡ true)
test_with_implied true true h = (refl, refl)
test_with_implied true false h = absurd (true≢false (sym h))
test_with_implied false y h = absurd (true≢false (sym h))

-- ---- where it is decided what holds, it is decided of which sets it holds minimally
module _ (P : ℕ → Type 0) (decides : (s : ℕ) → P s ⊎ (¬ P s)) where
  -- a smaller one within s
  abbrev HasSmaller : ℕ → ℕ → Type 0
  HasSmaller s t = P t × Within t s

  pub cases_minimal : (s : ℕ) → IsMinimal P s ⊎ (¬ IsMinimal P s)
  cases_minimal s = at (decides s) (cases_all_below (λ t. ¬ HasSmaller s t) s (λ t less. cases_not (cases_both (decides t) (cases_within t s))))
    where
      at : P s ⊎ (¬ P s) → ((t : ℕ) → t < s → ¬ HasSmaller s t) ⊎ (¬ ((t : ℕ) → t < s → ¬ HasSmaller s t)) → IsMinimal P s ⊎ (¬ IsMinimal P s)
      at (inr not) h = inr (λ minimal. not minimal.one)
      at (inl p) (inr some) = inr (λ minimal. some (λ t less h. let same = minimal.least t h.0 h.1 in omega arith))
      at (inl p) (inl none) = inl (record { one = p; least = λ t q within. least t q within (cases_lt t s) })
        where
          least : (t : ℕ) → P t → Within t s → (t < s) ⊎ (s ≤ t) → t ≡ s
          least t q within (inl less) = absurd (none t less (q, within))
          least t q within (inr past) = omega (arith, Within-le t s within)
