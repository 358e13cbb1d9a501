-- Lists that go together place by place.
use Rattle.std.proofs.Common.{◌≡◌, ℕ, ◌<◌, zero, suc, List, [], ◌∷◌, ◌++◌, length, get_or, Some, slice_get, refl, subst, arith, ◌+◌, map, take, sym, ◌∙◌}
use Rattle.std.specs.List.{AllZip}
use Rattle.std.proofs.lemmas.List.{length-map}
use Rattle.mcs_base.proofs.Lists.{length_zip, zip_push}
use Rattle.mcs_base.proofs.Mapped.{map-take_read}
use Rattle.mcs_base.proofs.Written.{take_read}

module _ {A B : Type 0} (R : A → B → Type 0) where
  -- what stands at a place of the first goes with what stands there in the second
  pub zip_get : (xs : List A) (ys : List B) → AllZip R xs ys → (i : ℕ) (x : A) → slice_get xs i ≡ Some x → (y : B) × (slice_get ys i ≡ Some y) × R x y
  zip_get [] [] all i x is = cc
  zip_get [] (y ∷ ys) all i x is = absurd all
  zip_get (z ∷ xs) [] all i x is = absurd all
  zip_get (z ∷ xs) (y ∷ ys) all zero x is = (y, refl, (let e : z ≡ x = cc in subst (λ (w : A). R w y) e all.0))
  zip_get (z ∷ xs) (y ∷ ys) all (suc i) x is = zip_get xs ys all.1 i x is

  -- lists of one length, where each that stands at a place of the first goes with what stands there in the second
  pub zip_from_get : (xs : List A) (ys : List B) → length xs ≡ length ys → ((i : ℕ) (x : A) (y : B) → slice_get xs i ≡ Some x → slice_get ys i ≡ Some y → R x y) → AllZip R xs ys
  zip_from_get [] [] long each = tt
  zip_from_get [] (y ∷ ys) long each = absurd (omega (arith, long))
  zip_from_get (x ∷ xs) [] long each = absurd (omega (arith, long))
  zip_from_get (x ∷ xs) (y ∷ ys) long each = (each 0 x y refl refl, zip_from_get xs ys (omega (arith, long)) (λ i a b. each (suc i) a b))

  pub zip_from_get_or : (xs : List A) (ys : List B) (d : A) (e : B) → length xs ≡ length ys → ((k : ℕ) → k < length ys → R (get_or xs k d) (get_or ys k e)) → AllZip R xs ys
  zip_from_get_or [] [] d e long each = tt
  zip_from_get_or [] (y ∷ ys) d e long each = absurd (omega (arith, long))
  zip_from_get_or (x ∷ xs) [] d e long each = absurd (omega (arith, long))
  zip_from_get_or (x ∷ xs) (y ∷ ys) d e long each = (each 0 (omega arith), zip_from_get_or xs ys d e (omega (arith, long)) (λ k less. each (suc k) (omega arith)))

  pub zip_append : (xs xs' : List A) (ys ys' : List B) → AllZip R xs ys → AllZip R xs' ys' → AllZip R (xs ++ xs') (ys ++ ys')
  zip_append [] xs' [] ys' h h' = h'
  zip_append [] xs' (y ∷ ys) ys' h h' = absurd h
  zip_append (x ∷ xs) xs' [] ys' h h' = absurd h
  zip_append (x ∷ xs) xs' (y ∷ ys) ys' h h' = (h.0, zip_append xs xs' ys ys' h.1 h')

  pub zip_weaker : (S : A → B → Type 0) → ((x : A) (y : B) → R x y → S x y) → (xs : List A) (ys : List B) → AllZip R xs ys → AllZip S xs ys
  zip_weaker S weaker [] [] h = tt
  zip_weaker S weaker [] (y ∷ ys) h = absurd h
  zip_weaker S weaker (x ∷ xs) [] h = absurd h
  zip_weaker S weaker (x ∷ xs) (y ∷ ys) h = (weaker x y h.0, zip_weaker S weaker xs ys h.1)

-- lists of two lengths do not go together
pub zip_short : {A B C D : Type 0} (R : C → D → Type 0) (f : A → C) (g : B → D) (xs : List A) (ys : List B) → ¬ (length xs ≡ length ys) → ¬ AllZip R (map f xs) (map g ys)
zip_short R f g xs ys differ all = differ (sym (length-map xs f) ∙ length_zip R (map f xs) (map g ys) all ∙ length-map ys g)

-- one item more on both sides
pub zip_take_read : {A B C : Type 0} (R : B → C → Type 0) (f : A → B) (xs : List A) (i : ℕ) (x : A) (ys ys' : List C) (y : C) → i < length xs → x ≡ get_or xs i x → ys' ≡ ys ++ y ∷ []
    → AllZip R (map f (take i xs)) ys → R (f x) y → AllZip R (map f (take (i + 1) xs)) ys'
zip_take_read {A} {B} {C} R f xs i x ys ys' y less is pushed all one =
    subst (λ (zs : List B). AllZip R zs ys') (sym (map-take_read f xs i x less is)) (subst (AllZip R (map f (take i xs) ++ f x ∷ [])) (sym pushed) (zip_push R (map f (take i xs)) ys (f x) y all one))

-- ---- one more, and one less
pub zip_more : {A B : Type 0} (R : A → B → Type 0) (xs : List A) (k : ℕ) (x : A) → k < length xs → x ≡ get_or xs k x → (ys now : List B) (y : B) → AllZip R (take k xs) ys → R x y → now ≡ ys ++ y ∷ [] → AllZip R (take (k + 1) xs) now
zip_more R xs k x less here ys now y so_far one is =
    subst (λ zs. AllZip R zs now) (sym (take_read xs k x less here)) (subst (AllZip R (take k xs ++ x ∷ [])) (sym is) (zip_push R (take k xs) ys x y so_far one))

pub zip_pop : {A B : Type 0} (R : A → B → Type 0) (xs : List A) (ys : List B) (x : A) (y : B) → AllZip R (xs ++ x ∷ []) (ys ++ y ∷ []) → AllZip R xs ys × R x y
zip_pop R [] [] x y all = (tt, all.0)
zip_pop R [] (z ∷ []) x y all = absurd all.1
zip_pop R [] (z ∷ w ∷ zs) x y all = absurd all.1
zip_pop R (v ∷ []) [] x y all = absurd all.1
zip_pop R (v ∷ w ∷ ws) [] x y all = absurd all.1
zip_pop R (w ∷ ws) (z ∷ zs) x y all = let rest = zip_pop R ws zs x y all.1 in ((all.0, rest.0), rest.1)

-- nothing goes with a list that has one with which nothing goes
pub not_among : {A V : Type 0} (Shown : V → A → Type 0) (front : List A) (x : A) (rest : List A) → ((v : V) → ¬ Shown v x) → (vs : List V) → ¬ AllZip Shown vs ((front ++ x ∷ []) ++ rest)
not_among Shown [] x rest none [] h = absurd h
not_among Shown [] x rest none (v ∷ vs) h = none v h.0
not_among Shown (y ∷ front) x rest none [] h = absurd h
not_among Shown (y ∷ front) x rest none (v ∷ vs) h = not_among Shown front x rest none vs h.1
