-- Lists in order: what comes before what, and what stays in order.
use Rattle.std.proofs.Common.{ℕ, ◌<◌, zero, suc, Bool, true, false, cond, List, [], ◌∷◌, ◌++◌, map, filter, length, take, get_or, sym, subst, inl, inr, refl, arith, drop, ◌+◌}
use Rattle.std.specs.List.{AllByRecursion}
use Rattle.std.proofs.lemmas.List.{drop_more}
use Rattle.mcs_base.specs.Listings.{IsAscending, IsAmong}
use Rattle.mcs_base.proofs.Among.{among_at}
use Rattle.mcs_base.proofs.Each.{all_among, all_from_among, all_append, all_filter, all_map}

module _ {A : Type 0} (before : A → A → Type 0) where
  pub before_at : (xs : List A) (k : ℕ) (d : A) → k < length xs → IsAscending before xs → (x : A) → IsAmong x (take k xs) → before x (get_or xs k d)
  before_at [] k d less up x h = absurd (omega arith)
  before_at (y ∷ ys) zero d less up x h = absurd h
  before_at (y ∷ ys) (suc k) d less up x (inl e) = subst (λ (z : A). before z (get_or ys k d)) (sym e) (all_among (before y) ys (get_or ys k d) up.0 (among_at ys k d (omega arith)))
  before_at (y ∷ ys) (suc k) d less up x (inr h) = before_at ys k d (omega arith) up.1 x h

  pub ascending_append : (xs ys : List A) → ((x y : A) → IsAmong x xs → IsAmong y ys → before x y) → IsAscending before xs → IsAscending before ys → IsAscending before (xs ++ ys)
  ascending_append [] ys apart up up' = up'
  ascending_append (x ∷ xs) ys apart up up' = (
    all_append (before x) xs ys up.0 (all_from_among (before x) ys (λ y among. apart x y (inl refl) among)),
    ascending_append xs ys (λ z y there among. apart z y (inr there) among) up.1 up',
  )

  pub ascending_push : (xs : List A) (y : A) → IsAscending before xs → ((x : A) → IsAmong x xs → before x y) → IsAscending before (xs ++ y ∷ [])
  ascending_push xs y up last = ascending_append xs (y ∷ []) (λ x z h here. elim here [ inl e ↦ subst (before x) (sym e) (last x h) | inr none ↦ absurd none ]) up (tt, tt)

  pub ascending_drop : (xs : List A) (k : ℕ) → IsAscending before xs → IsAscending before (drop k xs)
  ascending_drop xs zero up = up
  ascending_drop [] (suc k) up = up
  ascending_drop (x ∷ xs) (suc k) up = ascending_drop xs k up.1

  -- the first of the rest comes before all after it
  pub first_before : (xs : List A) (k : ℕ) (d : A) → k < length xs → IsAscending before xs → AllByRecursion (before (get_or xs k d)) (drop (k + 1) xs)
  first_before xs k d less up = (subst (IsAscending before) (drop_more xs k d less) (ascending_drop xs k up)).0

  pub ascending_filter : (p : A → Bool) (xs : List A) → IsAscending before xs → IsAscending before (filter p xs)
  ascending_filter p [] up = tt
  ascending_filter p (x ∷ xs) up = at (p x) (ascending_filter p xs up.1)
    where
      at : (b : Bool) → IsAscending before (filter p xs) → IsAscending before (cond b (x ∷ filter p xs) (filter p xs))
      at true rest = (all_filter (before x) p xs up.0, rest)
      at false rest = rest

  -- an order that agrees on what is among the list
  pub ascending_as : (before' : A → A → Type 0) (xs : List A) → ((x y : A) → IsAmong x xs → IsAmong y xs → before x y → before' x y) → IsAscending before xs → IsAscending before' xs
  ascending_as before' [] same up = tt
  ascending_as before' (x ∷ xs) same up = (
    all_from_among (before' x) xs (λ y among. same x y (inl refl) (inr among) (all_among (before x) xs y up.0 among)),
    ascending_as before' xs (λ y z h k. same y z (inr h) (inr k)) up.1,
  )

  pub ascending_map : {B : Type 0} (f : A → B) (before' : B → B → Type 0) → ((x y : A) → before x y → before' (f x) (f y)) → (xs : List A) → IsAscending before xs → IsAscending before' (map f xs)
  ascending_map f before' keeps [] up = tt
  ascending_map f before' keeps (x ∷ xs) up = (all_map f (before x) (before' (f x)) (keeps x) xs up.0, ascending_map f before' keeps xs up.1)
