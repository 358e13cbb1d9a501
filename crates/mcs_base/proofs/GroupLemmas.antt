-- Lists that are dealt to groups, and collected again.
use Rattle.std.proofs.Common.{◌≡◌, ℕ, zero, suc, ◌+◌, ◌<◌, ◌≤◌, ◌%◌, nat_eq, Bool, true, false, cond, List, [], ◌∷◌, ◌++◌, map, drop, length, replicate, Some, slice_get, slice_set, length-append, refl, sym, ap, ◌∙◌, subst, inl, inr, arith}
use Rattle.std.proofs.lemmas.Bool.{cases_eq}
use Rattle.std.proofs.lemmas.List.{length-map}
use Rattle.std.proofs.lemmas.List.Sums.{sum_by-append, sum_by-cons}
use Rattle.std.proofs.lemmas.Option.{none-some, same_Some, slice_get_within}
use Rattle.std.specs.List.{sum_by}
use Rattle.mcs_base.proofs.Lists.{slice_get_below, slice_get_push_at, slice_get_seam, slice_get_kept}
use Rattle.mcs_base.specs.Groups.{AreShapedAs, added_to, grouped, members}
use Rattle.mcs_base.proofs.Placed.{eq_differs, eq_same, same_at}

-- ---- one more
module _ {A : Type 0} where
  pub added_long : (g : ℕ) (x : A) (groups : List (List A)) → length (added_to g x groups) ≡ length groups
  added_long g x [] = refl
  added_long zero x (group ∷ groups) = refl
  added_long (suc g) x (group ∷ groups) = ap suc (added_long g x groups)

  -- by a change at one place
  pub added_is_set : (g : ℕ) (x : A) (groups : List (List A)) (group : List A) → slice_get groups g ≡ Some group → slice_set groups g (group ++ x ∷ []) ≡ added_to g x groups
  added_is_set g x [] group at = refl
  added_is_set zero x (ys ∷ groups) group at = let e : ys ≡ group = same_Some ys group at in ap (λ (zs : List A). (zs ++ x ∷ []) ∷ groups) (sym e)
  added_is_set (suc g) x (ys ∷ groups) group at = ap (λ (zss : List (List A)). ys ∷ zss) (added_is_set g x groups group at)

  -- what stands there then
  pub added_there : (g : ℕ) (x : A) (groups : List (List A)) (group : List A) → slice_get groups g ≡ Some group → slice_get (added_to g x groups) g ≡ Some (group ++ x ∷ [])
  added_there g x [] group at = absurd (none-some group at)
  added_there zero x (ys ∷ groups) group at = let e : ys ≡ group = same_Some ys group at in ap (λ (zs : List A). Some (zs ++ x ∷ [])) e
  added_there (suc g) x (ys ∷ groups) group at = added_there g x groups group at

  pub added_other : (g h : ℕ) (x : A) (groups : List (List A)) → ¬ (h ≡ g) → slice_get (added_to g x groups) h ≡ slice_get groups h
  added_other g h x [] differ = refl
  added_other zero zero x (ys ∷ groups) differ = absurd (differ refl)
  added_other zero (suc h) x (ys ∷ groups) differ = refl
  added_other (suc g) zero x (ys ∷ groups) differ = refl
  added_other (suc g) (suc h) x (ys ∷ groups) differ = added_other g h x groups (λ e. differ (ap suc e))

  -- the one that was added last
  push_back : (ps bs : List A) (x y : A) → ps ++ x ∷ [] ≡ bs ++ y ∷ [] → (x ≡ y) × (ps ≡ bs)
  push_back [] [] x y e = ((let same : x ≡ y = cc in same), refl)
  push_back [] (b ∷ bs) x y e = absurd (let long = ap length e in let more = length-append bs (y ∷ []) in omega (arith, long, more))
  push_back (a ∷ ps) [] x y e = absurd (let long = ap length e in let more = length-append ps (x ∷ []) in omega (arith, long, more))
  push_back (a ∷ ps) (b ∷ bs) x y e =
      let rest : ps ++ x ∷ [] ≡ bs ++ y ∷ [] = cc in
      let first : a ≡ b = cc in
      let (last, front) = push_back ps bs x y rest in
      (last, ap (λ (z : A). z ∷ ps) first ∙ ap (λ (zs : List A). b ∷ zs) front)

  added_back : (g : ℕ) (x y : A) (ps bs : List (List A)) → g < length ps → g < length bs → added_to g x ps ≡ added_to g y bs → (x ≡ y) × (ps ≡ bs)
  added_back g x y [] bs less less' e = absurd (omega (arith, less))
  added_back g x y (a ∷ ps) [] less less' e = absurd (omega (arith, less'))
  added_back zero x y (a ∷ ps) (b ∷ bs) less less' e =
      let here : a ++ x ∷ [] ≡ b ++ y ∷ [] = cc in
      let rest : ps ≡ bs = cc in
      let (last, front) = push_back a b x y here in
      (last, ap (λ (z : List A). z ∷ ps) front ∙ ap (λ (zs : List (List A)). b ∷ zs) rest)
  added_back (suc g) x y (a ∷ ps) (b ∷ bs) less less' e =
      let here : a ≡ b = cc in
      let rest : added_to g x ps ≡ added_to g y bs = cc in
      let (last, front) = added_back g x y ps bs (omega (arith, less)) (omega (arith, less')) rest in
      (last, ap (λ (z : List A). z ∷ ps) here ∙ ap (λ (zs : List (List A)). b ∷ zs) front)

-- ---- all
module _ {A : Type 0} (w : ℕ) where
  pub grouped_long : (k : ℕ) (xs : List A) → length (grouped w k xs) ≡ w
  grouped_long k [] = length_replicate w
    where
      length_replicate : (n : ℕ) → length (replicate {A = List A} n []) ≡ n
      length_replicate zero = refl
      length_replicate (suc n) = ap suc (length_replicate n)
  grouped_long k (x ∷ xs) = added_long (k % w) x (grouped w (k + 1) xs) ∙ grouped_long (k + 1) xs

  -- each group is no longer than the list
  pub grouped_short : (k : ℕ) (xs : List A) (g : ℕ) (ys : List A) → slice_get (grouped w k xs) g ≡ Some ys → length ys ≤ length xs
  grouped_short k [] g ys at = let none = none_in w g ys at in omega (arith, none)
    where
      none_in : (n g : ℕ) (ys : List A) → slice_get (replicate n []) g ≡ Some ys → length ys ≡ 0
      none_in zero g ys at = absurd (none-some ys at)
      none_in (suc n) zero ys at = ap (λ (zs : List A). length zs) (sym (same_Some [] ys at))
      none_in (suc n) (suc g) ys at = none_in n g ys at
  grouped_short k (x ∷ xs) g ys at = elim (cases_eq g (k % w)) [
    | inl same ↦
        let (zs, there) = slice_get_below (grouped w (k + 1) xs) (k % w) (below g ys same at) in
        let is : zs ++ x ∷ [] ≡ ys = same_Some (zs ++ x ∷ []) ys (sym (added_there (k % w) x (grouped w (k + 1) xs) zs there) ∙ subst (λ (n : ℕ). slice_get (added_to (k % w) x (grouped w (k + 1) xs)) n ≡ Some ys) same at) in
        let less = grouped_short (k + 1) xs (k % w) zs there in
        let long = ap (λ (l : List A). length l) is in
        omega (arith, less, long, length-append zs (x ∷ []))
    | inr differ ↦ let less = grouped_short (k + 1) xs g ys (sym (added_other (k % w) g x (grouped w (k + 1) xs) differ) ∙ at) in omega (arith, less)
  ]
    where
      below : (g : ℕ) (ys : List A) → g ≡ k % w → slice_get (added_to (k % w) x (grouped w (k + 1) xs)) g ≡ Some ys → k % w < length (grouped w (k + 1) xs)
      below g ys same at = let within = slice_get_within (added_to (k % w) x (grouped w (k + 1) xs)) g ys at in let long = added_long (k % w) x (grouped w (k + 1) xs) in omega (arith, within, long, same)

  -- ---- what the groups have
  -- each that stands in the list is in a group
  pub grouped_has : 0 < w → (k : ℕ) (xs : List A) (i : ℕ) (x : A) → slice_get xs i ≡ Some x → (g : ℕ) × (ys : List A) × (p : ℕ) × (slice_get (grouped w k xs) g ≡ Some ys) × (slice_get ys p ≡ Some x)
  grouped_has some k [] i x at = absurd (none-some x at)
  grouped_has some k (z ∷ xs) zero x at =
      let (ys, there) = slice_get_below (grouped w (k + 1) xs) (k % w) (let long = grouped_long (k + 1) xs in omega (arith, long, some)) in
      let e : z ≡ x = same_Some z x at in
      (k % w, ys ++ z ∷ [], length ys, added_there (k % w) z (grouped w (k + 1) xs) ys there, slice_get_seam ys z [] (length ys) refl ∙ ap (λ (y : A). Some y) e)
  grouped_has some k (z ∷ xs) (suc i) x at =
      let (g, ys, p, there, here) = grouped_has some (k + 1) xs i x at in
      elim (cases_eq g (k % w)) [
        | inl same ↦ (
          k % w,
          ys ++ z ∷ [],
          p,
          added_there (k % w) z (grouped w (k + 1) xs) ys (subst (λ (n : ℕ). slice_get (grouped w (k + 1) xs) n ≡ Some ys) same there),
          slice_get_kept ys (z ∷ []) p x here,
        )
        | inr differ ↦ (g, ys, p, added_other (k % w) g z (grouped w (k + 1) xs) differ ∙ there, here)
      ]

  -- and each that is in a group stands in the list
  pub grouped_from : (k : ℕ) (xs : List A) (g : ℕ) (ys : List A) (p : ℕ) (x : A) → slice_get (grouped w k xs) g ≡ Some ys → slice_get ys p ≡ Some x → (i : ℕ) × (slice_get xs i ≡ Some x)
  grouped_from k [] g ys p x at here = absurd (none-some x (sym (ap (λ (zs : List A). slice_get zs p) (none_in w g ys at)) ∙ here))
    where
      none_in : (n g : ℕ) (ys : List A) → slice_get (replicate n []) g ≡ Some ys → ys ≡ []
      none_in zero g ys at = absurd (none-some ys at)
      none_in (suc n) zero ys at = sym (same_Some [] ys at)
      none_in (suc n) (suc g) ys at = none_in n g ys at
  grouped_from k (z ∷ xs) g ys p x at here = elim (cases_eq g (k % w)) [
    | inl same ↦
        let at' = subst (λ (n : ℕ). slice_get (added_to (k % w) z (grouped w (k + 1) xs)) n ≡ Some ys) same at in
        let (zs, there) = slice_get_below (grouped w (k + 1) xs) (k % w) (let within = slice_get_within (added_to (k % w) z (grouped w (k + 1) xs)) (k % w) ys at' in let long = added_long (k % w) z (grouped w (k + 1) xs) in omega (arith, within, long)) in
        let is : ys ≡ zs ++ z ∷ [] = sym (same_Some (zs ++ z ∷ []) ys (sym (added_there (k % w) z (grouped w (k + 1) xs) zs there) ∙ at')) in
        elim (slice_get_push_at zs z p x (subst (λ (l : List A). slice_get l p ≡ Some x) is here)) [
          | inl old ↦ let (i, there') = grouped_from (k + 1) xs (k % w) zs p x there old in (suc i, there')
          | inr last ↦ (0, ap (λ (y : A). Some y) (sym last.1))
        ]
    | inr differ ↦ let (i, there) = grouped_from (k + 1) xs g ys p x (sym (added_other (k % w) g z (grouped w (k + 1) xs) differ) ∙ at) here in (suc i, there)
  ]

  -- ---- sums
  sum_added : (f : A → ℕ) (g : ℕ) (x : A) (groups : List (List A)) → g < length groups → sum_by (λ (ys : List A). sum_by f ys) (added_to g x groups) ≡ sum_by (λ (ys : List A). sum_by f ys) groups + f x
  sum_added f g x [] less = absurd (omega (arith, less))
  sum_added f zero x (ys ∷ groups) less =
      omega (arith, sum_by-cons (λ (zs : List A). sum_by f zs) (ys ++ x ∷ []) groups, sum_by-cons (λ (zs : List A). sum_by f zs) ys groups, sum_by-append f ys (x ∷ []), sum_by-cons f x [])
  sum_added f (suc g) x (ys ∷ groups) less =
      let rest = sum_added f g x groups (omega (arith, less)) in
      omega (arith, rest, sum_by-cons (λ (zs : List A). sum_by f zs) ys (added_to g x groups), sum_by-cons (λ (zs : List A). sum_by f zs) ys groups)

  sum_of_none : (f : A → ℕ) (n : ℕ) → sum_by (λ (ys : List A). sum_by f ys) (replicate n []) ≡ 0
  sum_of_none f zero = refl
  sum_of_none f (suc n) = let rest = sum_of_none f n in omega (arith, rest, sum_by-cons (λ (ys : List A). sum_by f ys) [] (replicate n []))

  -- over all groups
  pub grouped_sum : 0 < w → (f : A → ℕ) (k : ℕ) (xs : List A) → sum_by (λ (ys : List A). sum_by f ys) (grouped w k xs) ≡ sum_by f xs
  grouped_sum some f k [] = sum_of_none f w
  grouped_sum some f k (x ∷ xs) =
      let rest = grouped_sum some f (k + 1) xs in
      let long = grouped_long (k + 1) xs in
      let more = sum_added f (k % w) x (grouped w (k + 1) xs) (omega (arith, long, some)) in
      omega (arith, rest, more, sum_by-cons f x xs)

  -- over one, in whatever order
  pub member_sum : (f : A → ℕ) (k : ℕ) (xs : List A) (g : ℕ) (ys : List A) → slice_get (grouped w k xs) g ≡ Some ys → sum_by f ys ≡ sum_by f (members w g k xs)
  member_sum f k [] g ys at = ap (λ (zs : List A). sum_by f zs) (none_in w g ys at)
    where
      none_in : (n g : ℕ) (ys : List A) → slice_get (replicate n []) g ≡ Some ys → ys ≡ []
      none_in zero g ys at = absurd (none-some ys at)
      none_in (suc n) zero ys at = sym (same_Some [] ys at)
      none_in (suc n) (suc g) ys at = none_in n g ys at
  member_sum f k (x ∷ xs) g ys at = elim (cases_eq g (k % w)) [
    | inl same ↦
        let at' = subst (λ (n : ℕ). slice_get (added_to (k % w) x (grouped w (k + 1) xs)) n ≡ Some ys) same at in
        let (zs, there) = slice_get_below (grouped w (k + 1) xs) (k % w) (let within = slice_get_within (added_to (k % w) x (grouped w (k + 1) xs)) (k % w) ys at' in let long = added_long (k % w) x (grouped w (k + 1) xs) in omega (arith, within, long)) in
        let is : ys ≡ zs ++ x ∷ [] = sym (same_Some (zs ++ x ∷ []) ys (sym (added_there (k % w) x (grouped w (k + 1) xs) zs there) ∙ at')) in
        let rest = member_sum f (k + 1) xs g zs (subst (λ (n : ℕ). slice_get (grouped w (k + 1) xs) n ≡ Some zs) (sym same) there) in
        let all = ap (λ (l : List A). sum_by f l) is in
        let test : nat_eq (k % w) g ≡ true = subst (λ (n : ℕ). nat_eq (k % w) n ≡ true) (sym same) (eq_same (k % w)) in
        subst (λ (b : Bool). sum_by f ys ≡ sum_by f (cond b (x ∷ members w g (k + 1) xs) (members w g (k + 1) xs))) (sym test)
        (omega (arith, rest, all, sum_by-append f zs (x ∷ []), sum_by-cons f x [], sum_by-cons f x (members w g (k + 1) xs)))
    | inr differ ↦
        let rest = member_sum f (k + 1) xs g ys (sym (added_other (k % w) g x (grouped w (k + 1) xs) differ) ∙ at) in
        let test : nat_eq (k % w) g ≡ false = eq_differs (k % w) g differ in
        subst (λ (b : Bool). sum_by f ys ≡ sum_by f (cond b (x ∷ members w g (k + 1) xs) (members w g (k + 1) xs))) (sym test) rest
  ]

  -- ---- lists with the same groups are the same
  pub grouped_back : 0 < w → (k : ℕ) (xs ys : List A) → length xs ≡ length ys → grouped w k xs ≡ grouped w k ys → xs ≡ ys
  grouped_back some k [] [] long e = refl
  grouped_back some k [] (y ∷ ys) long e = absurd (omega (arith, long))
  grouped_back some k (x ∷ xs) [] long e = absurd (omega (arith, long))
  grouped_back some k (x ∷ xs) (y ∷ ys) long e =
      let (first, rest) = added_back (k % w) x y (grouped w (k + 1) xs) (grouped w (k + 1) ys) (let l = grouped_long (k + 1) xs in omega (arith, l, some)) (let l = grouped_long (k + 1) ys in omega (arith, l, some)) e in
      ap (λ (z : A). z ∷ xs) first ∙ ap (λ (zs : List A). y ∷ zs) (grouped_back some (k + 1) xs ys (omega (arith, long)) rest)

-- ---- images
added_map : {A B : Type 0} (f : A → B) (g : ℕ) (x : A) (groups : List (List A)) → map (map f) (added_to g x groups) ≡ added_to g (f x) (map (map f) groups)
added_map f g x [] = refl
added_map f zero x (ys ∷ groups) = ap (λ zs. zs ∷ map (map f) groups) (map_pushed f ys x)
  where
    map_pushed : {A B : Type 0} (f : A → B) (ys : List A) (x : A) → map f (ys ++ x ∷ []) ≡ map f ys ++ f x ∷ []
    map_pushed f [] x = refl
    map_pushed f (y ∷ ys) x = ap (λ zs. f y ∷ zs) (map_pushed f ys x)
added_map f (suc g) x (ys ∷ groups) = ap (λ zss. map f ys ∷ zss) (added_map f g x groups)

pub grouped_map : {A B : Type 0} (w : ℕ) (f : A → B) (k : ℕ) (xs : List A) → map (map f) (grouped w k xs) ≡ grouped w k (map f xs)
grouped_map {A} {B} w f k [] = none w
  where
    none : (n : ℕ) → map (map f) (replicate n []) ≡ replicate n []
    none zero = refl
    none (suc n) = ap (λ zss. [] ∷ zss) (none n)
grouped_map w f k (x ∷ xs) = added_map f (k % w) x (grouped w (k + 1) xs) ∙ ap (added_to (k % w) (f x)) (grouped_map w f (k + 1) xs)

-- ---- dealing
-- one more was dealt
pub dealt_more : {A : Type 0} (w k : ℕ) (x : A) (part rest now : List A) (groups : List (List A)) (group : List A) → rest ≡ now ++ x ∷ [] → k ≡ length now → groups ≡ grouped w (length rest) part → slice_get groups (k % w) ≡ Some group
    → slice_set groups (k % w) (group ++ x ∷ []) ≡ grouped w (length now) (x ∷ part)
dealt_more {A} w k x part rest now groups group is at dealt there =
    let long : length rest ≡ length now + 1 = ap (λ (l : List A). length l) is ∙ length-append now (x ∷ []) in
    added_is_set (k % w) x groups group there
    ∙ ap (added_to (k % w) x) (dealt ∙ ap (λ (n : ℕ). grouped w n part) long)
    ∙ ap (λ (n : ℕ). added_to (n % w) x (grouped w (length now + 1) part)) at

-- ---- collecting
-- the list is dealt on top of these groups
abbrev pub grouped_onto : {A : Type 0} → ℕ → ℕ → List A → List (List A) → List (List A)
grouped_onto w k [] base = base
grouped_onto w k (x ∷ xs) base = added_to (k % w) x (grouped_onto w (k + 1) xs base)

pub onto_none : {A : Type 0} (w k : ℕ) (xs : List A) → grouped_onto w k xs (replicate w []) ≡ grouped w k xs
onto_none w k [] = refl
onto_none w k (x ∷ xs) = ap (added_to (k % w) x) (onto_none w (k + 1) xs)

-- the last one first
pub onto_push : {A : Type 0} (w k : ℕ) (xs : List A) (x : A) (base : List (List A)) → grouped_onto w k (xs ++ x ∷ []) base ≡ grouped_onto w k xs (added_to ((k + length xs) % w) x base)
onto_push w k [] x base = let e : k ≡ k + 0 = omega arith in ap (λ (n : ℕ). added_to (n % w) x base) e
onto_push w k (y ∷ xs) x base =
    let e : k + 1 + length xs ≡ k + suc (length xs) = omega arith in
    ap (added_to (k % w) y) (onto_push w (k + 1) xs x base ∙ ap (λ (n : ℕ). grouped_onto w (k + 1) xs (added_to (n % w) x base)) e)

-- groups of one shape, with one less each
module _ {A : Type 0} where
  shape_back : (g : ℕ) (x y : A) (ps bs : List (List A)) → AreShapedAs (added_to g x ps) (added_to g y bs) → AreShapedAs ps bs
  shape_back g x y [] [] e = refl
  shape_back g x y [] (b ∷ bs) e = absurd (let long = ap (λ (l : List ℕ). length l) e in omega (arith, long, length-map (added_to g y (b ∷ bs)) (λ (group : List A). length group), added_long g y (b ∷ bs)))
  shape_back g x y (a ∷ ps) [] e = absurd (let long = ap (λ (l : List ℕ). length l) e in omega (arith, long, length-map (added_to g x (a ∷ ps)) (λ (group : List A). length group), added_long g x (a ∷ ps)))
  shape_back zero x y (a ∷ ps) (b ∷ bs) e =
      let here : length (a ++ x ∷ []) ≡ length (b ++ y ∷ []) = cc in
      let rest : map (λ (group : List A). length group) ps ≡ map (λ (group : List A). length group) bs = cc in
      let same : length a ≡ length b = omega (arith, here, length-append a (x ∷ []), length-append b (y ∷ [])) in
      ap (λ (n : ℕ). n ∷ map (λ (group : List A). length group) ps) same ∙ ap (λ (ns : List ℕ). length b ∷ ns) rest
  shape_back (suc g) x y (a ∷ ps) (b ∷ bs) e =
      let here : length a ≡ length b = cc in
      let inner : map (λ (group : List A). length group) (added_to g x ps) ≡ map (λ (group : List A). length group) (added_to g y bs) = cc in
      let rest = shape_back g x y ps bs inner in
      ap (λ (n : ℕ). n ∷ map (λ (group : List A). length group) ps) here ∙ ap (λ (ns : List ℕ). length b ∷ ns) rest

  shape_none : (n : ℕ) (bs : List (List A)) → AreShapedAs (replicate n []) bs → bs ≡ replicate n []
  shape_none zero [] e = refl
  shape_none zero (b ∷ bs) e = absurd (let long = ap (λ (l : List ℕ). length l) e in omega (arith, long))
  shape_none (suc n) [] e = absurd (let long = ap (λ (l : List ℕ). length l) e in omega (arith, long))
  shape_none (suc n) (b ∷ bs) e =
      let here : length b ≡ 0 = cc in
      let inner : map (λ (group : List A). length group) (replicate {A = List A} n []) ≡ map (λ (group : List A). length group) bs = cc in
      ap (λ (z : List A). z ∷ bs) (nothing b here) ∙ ap (λ (zs : List (List A)). [] ∷ zs) (shape_none n bs inner)
    where
      nothing : (b : List A) → length b ≡ 0 → b ≡ []
      nothing [] e = refl
      nothing (x ∷ xs) e = absurd (omega (arith, e))

  -- without its last member
  added_undone : (g : ℕ) (x : A) (groups : List (List A)) (group : List A) → slice_get groups g ≡ Some (group ++ x ∷ []) → groups ≡ added_to g x (slice_set groups g group)
  added_undone g x [] group at = absurd (none-some (group ++ x ∷ []) at)
  added_undone zero x (ys ∷ groups) group at = ap (λ (zs : List A). zs ∷ groups) (same_Some ys (group ++ x ∷ []) at)
  added_undone (suc g) x (ys ∷ groups) group at = ap (λ (zss : List (List A)). ys ∷ zss) (added_undone g x groups group at)

-- so many were collected from the groups
pub record IsCollecting {A : Type 0} (w : ℕ) (was : List A) (first now : List (List A)) (collected : List A) (i : ℕ) : Type 0 where
  pub onto : first ≡ grouped_onto w 0 collected now
  pub shape : AreShapedAs (grouped w i (drop i was)) now
  pub long : length collected ≡ i

pub collecting_begun : {A : Type 0} (w : ℕ) (was : List A) (first : List (List A)) → AreShapedAs (grouped w 0 was) first → IsCollecting w was first first [] 0
collecting_begun w was first shape = record { onto = refl; shape = shape; long = refl }

module _ {A : Type 0} (w : ℕ) (some : 0 < w) (was : List A) (first now : List (List A)) (collected : List A) (i : ℕ) (s : IsCollecting w was first now collected i) where
  next_is : i < length was → (y : A) × (drop i was ≡ y ∷ drop (i + 1) was)
  next_is less = let (y, at) = slice_get_below was i less in (y, drop_next was i y at)
    where
      drop_next : (xs : List A) (k : ℕ) (y : A) → slice_get xs k ≡ Some y → drop k xs ≡ y ∷ drop (k + 1) xs
      drop_next [] k y at = absurd (none-some y at)
      drop_next (x ∷ xs) zero y at = let e : x ≡ y = same_Some x y at in ap (λ (z : A). z ∷ xs) e
      drop_next (x ∷ xs) (suc k) y at = let e : suc k + 1 ≡ suc (k + 1) = omega arith in drop_next xs k y at ∙ ap (λ (n : ℕ). y ∷ drop n (x ∷ xs)) (sym e)

  -- the group whose turn it is has a member
  pub collecting_some : i < length was → (group : List A) → slice_get now (i % w) ≡ Some group → 0 < length group
  collecting_some less group at =
      let (y, is) = next_is less in
      let (ys, there) = slice_get_below (grouped w (i + 1) (drop (i + 1) was)) (i % w) (let long = grouped_long w (i + 1) (drop (i + 1) was) in omega (arith, long, some)) in
      let grown = added_there (i % w) y (grouped w (i + 1) (drop (i + 1) was)) ys there in
      let (group', at', same) = length_at (grouped w i (drop i was)) now s.shape (i % w) group at in
      let is' : group' ≡ ys ++ y ∷ [] = same_Some group' (ys ++ y ∷ []) (sym at' ∙ ap (λ (l : List A). slice_get (grouped w i l) (i % w)) is ∙ grown) in
      let long = ap (λ (l : List A). length l) is' in
      omega (arith, same, long, length-append ys (y ∷ []))
    where
      length_at : (ps bs : List (List A)) → AreShapedAs ps bs → (g : ℕ) (b : List A) → slice_get bs g ≡ Some b → (a : List A) × (slice_get ps g ≡ Some a) × (length a ≡ length b)
      length_at ps bs shape g b at = same_at (λ (group : List A). length group) bs ps (sym shape) g b at

  pub collecting_more : i < length was → (group : List A) (x : A) → slice_get now (i % w) ≡ Some (group ++ x ∷ []) → IsCollecting w was first (slice_set now (i % w) group) (collected ++ x ∷ []) (i + 1)
  collecting_more less group x at =
      let (y, is) = next_is less in
      let undone = added_undone (i % w) x now group at in
      let pushed = onto_push w 0 collected x (slice_set now (i % w) group) in
      let place : 0 + length collected ≡ i = (let long = s.long in omega (arith, long)) in
      record {
        onto = s.onto ∙ ap (grouped_onto w 0 collected) undone ∙ ap (λ (n : ℕ). grouped_onto w 0 collected (added_to (n % w) x (slice_set now (i % w) group))) (sym place) ∙ sym pushed;
        shape = shape_back (i % w) y x (grouped w (i + 1) (drop (i + 1) was)) (slice_set now (i % w) group)
            (subst (λ (groups : List (List A)). AreShapedAs (added_to (i % w) y (grouped w (i + 1) (drop (i + 1) was))) groups) undone (subst (λ (l : List A). AreShapedAs (grouped w i l) now) is s.shape));
        long = (let long = s.long in length-append collected (x ∷ []) ∙ omega (arith, long));
      }

  pub collecting_ends : length was ≤ i → first ≡ grouped w 0 collected
  collecting_ends all =
      let none = drop_past was i all in
      let now_is : now ≡ replicate w [] = shape_none w now (subst (λ (l : List A). AreShapedAs (grouped w i l) now) none s.shape) in
      s.onto ∙ ap (grouped_onto w 0 collected) now_is ∙ onto_none w 0 collected
    where
      drop_past : (xs : List A) (k : ℕ) → length xs ≤ k → drop k xs ≡ []
      drop_past [] zero all = refl
      drop_past [] (suc k) all = refl
      drop_past (x ∷ xs) zero all = absurd (omega (arith, all))
      drop_past (x ∷ xs) (suc k) all = drop_past xs k (omega (arith, all))
