-- Lists by the images and the parts of their elements; what holds of numbers in ranges, lists and sets.
use Rattle.std.proofs.Common.{◌≡◌, ◌≢◌, ℕ, ◌+◌, ◌-◌, ◌*◌, ◌/◌, ◌%◌, ◌<◌, ◌≤◌, Bool, true, false, ◌||◌, eqb, List, [], ◌∷◌, ◌++◌, map, filter, drop, length, get_or, refl, sym, ap, ap₂, ◌∙◌, inl, inr, ◌⊎◌, arith, true≢false, zero, suc, Some, None, slice_get, subst, IsTrue}
use Rattle.std.proofs.lemmas.Bool.{and_parts, and_from}
use Rattle.std.proofs.lemmas.Bool.Decides.{nat_tests}
use Rattle.std.proofs.lemmas.List.{at_drop_more}
use Rattle.std.proofs.lemmas.List.Folds.{list_any-append, flat_map-map}
use Rattle.std.specs.Bool.{Decides}
use Rattle.std.specs.Cmp.Lexicographic.{pointwise}
use Rattle.std.specs.List.{flat_map, list_any, range_with_len}
use Rattle.mcs_base.proofs.Lists.{any-map, range_more, range_none}
use Rattle.mcs_sets.specs.Sets.{has, Meets}
use Rattle.mcs_base.specs.Listings.{IsAmong, IsAscending}
use Rattle.mcs_base.proofs.Among.{among_get}
use Rattle.mcs_base.proofs.Each.{all_among}

-- a test of elements that tells whether they have one image tells so of lists
pub pointwise_images : {A B : Type 0} (E : A → A → Bool) (f : A → B) → ((x y : A) → Decides (E x y) (f x ≡ f y)) → (xs ys : List A) → Decides (pointwise E xs ys) (map f xs ≡ map f ys)
pointwise_images E f tells [] [] = (λ e. refl, λ e. refl)
pointwise_images E f tells [] (y ∷ ys) = (λ e. absurd (true≢false (sym e)), λ e. cc)
pointwise_images E f tells (x ∷ xs) [] = (λ e. absurd (true≢false (sym e)), λ e. cc)
pointwise_images E f tells (x ∷ xs) (y ∷ ys) = let rest = pointwise_images E f tells xs ys in (
  λ e. let parts = and_parts (E x y) (pointwise E xs ys) e in ap₂ (λ z zs. z ∷ zs) ((tells x y).0 parts.0) (rest.0 parts.1),
  λ e. let here : f x ≡ f y = cc in let later : map f xs ≡ map f ys = cc in and_from (E x y) (pointwise E xs ys) ((tells x y).1 here) (rest.1 later),
)

-- a list by its elements, each alone
pub flat_map_alone : {A : Type 0} (xs : List A) → flat_map (λ x. x ∷ []) xs ≡ xs
flat_map_alone [] = refl
flat_map_alone (x ∷ xs) = ap (λ ys. x ∷ ys) (flat_map_alone xs)

pub filter_same : {A : Type 0} (p q : A → Bool) (xs : List A) → ((x : A) → p x ≡ q x) → filter p xs ≡ filter q xs
filter_same p q [] same = refl
filter_same p q (x ∷ xs) same = rw (same x, filter_same p q xs same) refl

-- what the parts from the next one on give
pub next_part : {X Y : Type 0} (part : X → List Y) (xs : List X) (k : ℕ) (x : X) → k < length xs → x ≡ get_or xs k x → flat_map part (drop k xs) ≡ part x ++ flat_map part (drop (k + 1) xs)
next_part part xs k x less is = at_drop_more (flat_map part) xs k x less ∙ ap (λ y. part y ++ flat_map part (drop (k + 1) xs)) (sym is)

pub next_seen : {X Y Z : Type 0} (view : X → Y) (part : Y → List Z) (xs : List X) (k : ℕ) (x : X) → k < length xs → x ≡ get_or xs k x
    → flat_map part (map view (drop k xs)) ≡ part (view x) ++ flat_map part (map view (drop (k + 1) xs))
next_seen view part xs k x less is = rw (flat_map-map part view (drop k xs), flat_map-map part view (drop (k + 1) xs)) (next_part (λ y. part (view y)) xs k x less is)

-- a test of the images of a list, and of two lists, one after the other
pub any_of_both : {X Y : Type 0} (p : Y → Bool) (view : X → Y) (xs ys : List X) → list_any p (map view xs ++ map view ys) ≡ (list_any (λ x. p (view x)) xs || list_any (λ x. p (view x)) ys)
any_of_both p view xs ys = list_any-append p (map view xs) (map view ys) ∙ ap₂ (λ a b. a || b) (any-map p view xs) (any-map p view ys)

pub ruleset any_of_map = (any-map)

-- ---- whether something holds of some number
-- of a number from i on, below n
abbrev pub some_from : (ℕ → Bool) → ℕ → ℕ → Bool
some_from p i n = list_any p (range_with_len i (n - i))

pub some_next : (p : ℕ → Bool) (i n : ℕ) (whole : Bool) → i < n → p i ≡ false → some_from p i n ≡ whole → some_from p (i + 1) n ≡ whole
some_next p i n whole less fails e = sym (ap (list_any p) (range_more i n less) ∙ rw fails refl) ∙ e

pub some_here : (p : ℕ → Bool) (i n : ℕ) (whole : Bool) → i < n → p i ≡ true → some_from p i n ≡ whole → whole ≡ true
some_here p i n whole less holds e = sym e ∙ ap (list_any p) (range_more i n less) ∙ rw holds refl

pub some_end : (p : ℕ → Bool) (i n : ℕ) (whole : Bool) → n ≤ i → some_from p i n ≡ whole → whole ≡ false
some_end p i n whole over e = sym e ∙ ap (list_any p) (range_none i n over)

-- a number is even or odd
pub by_parity : (k : ℕ) → (r : ℕ) × ((k ≡ 2 * r) ⊎ (k ≡ 2 * r + 1))
by_parity k = (k / 2, at (eqb (k % 2) 0) refl)
  where
    at : (v : Bool) → eqb (k % 2) 0 ≡ v → (k ≡ 2 * (k / 2)) ⊎ (k ≡ 2 * (k / 2) + 1)
    at true e = let zero_left : k % 2 ≡ 0 = grind (arith, nat_tests) in inl (omega arith)
    at false e = let some_left : k % 2 ≢ 0 = grind (arith, nat_tests) in inr (omega arith)

-- the numbers up to one
pub zero_or_one : (σ : ℕ) → σ ≤ 1 → IsAmong σ (1 ∷ 0 ∷ [])
zero_or_one zero small = inr (inl refl)
zero_or_one (suc zero) small = inl refl
zero_or_one (suc (suc σ)) small = absurd (omega arith)

-- ---- numbers in a list
-- v is in the list, of which the first has place k, at one of the places
abbrev pub IsLater : ℕ → List ℕ → ℕ → ℕ → Type 0
IsLater k vs places v = (j : ℕ) × (slice_get vs j ≡ Some v) × IsTrue (has places (k + j))

pub later : (k w : ℕ) (vs : List ℕ) (places v : ℕ) → IsLater (k + 1) vs places v → IsLater k (w ∷ vs) places v
later k w vs places v (j, is, at) = let e : k + 1 + j ≡ k + suc j = omega arith in (suc j, is, subst (λ (i : ℕ). IsTrue (has places i)) e at)

pub split : (k w : ℕ) (vs : List ℕ) (places v : ℕ) → IsLater k (w ∷ vs) places v → ((w ≡ v) × IsTrue (has places k)) ⊎ IsLater (k + 1) vs places v
split k w vs places v (zero, is, at) = let e : k + zero ≡ k = omega arith in inl (cc, subst (λ (i : ℕ). IsTrue (has places i)) e at)
split k w vs places v (suc j, is, at) = let e : k + suc j ≡ k + 1 + j = omega arith in inr (j, is, subst (λ (i : ℕ). IsTrue (has places i)) e at)

-- an ascending list rises with its places
pub rising : (vs : List ℕ) → IsAscending (λ a b. a < b) vs → (j k u v : ℕ) → slice_get vs j ≡ Some u → slice_get vs k ≡ Some v → u < v → j < k
rising [] h j k u v at_j at_k less = let no : None ≡ Some u = at_j in absurd (cc)
rising (w ∷ vs) h zero zero u v at_j at_k less = absurd (let same : u ≡ v = cc in omega arith)
rising (w ∷ vs) h zero (suc k) u v at_j at_k less = omega arith
rising (w ∷ vs) h (suc j) zero u v at_j at_k less = absurd (let low : w < u = all_among (λ b. w < b) vs u h.0 (among_get u vs j at_j) in let same : w ≡ v = cc in omega arith)
rising (w ∷ vs) h (suc j) (suc k) u v at_j at_k less = let rest = rising vs h.1 j k u v at_j at_k less in omega arith

-- what meets each set of a kind
abbrev pub MeetsEach : (ℕ → Type 0) → ℕ → Type 0
MeetsEach P t = (e : ℕ) → P e → Meets t e
