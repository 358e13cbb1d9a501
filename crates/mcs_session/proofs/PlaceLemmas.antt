-- Places of the members of a part among those of a set.
use Rattle.std.proofs.Common.{◌≡◌, ℕ, ◌+◌, ◌<◌, ◌≤◌, zero, suc, drop, Bool, true, false, ◌&&◌, ltb, eqb, List, [], ◌∷◌, length, Option, Some, None, slice_get, refl, sym, ap, ◌∙◌, arith, true≢false}
use Rattle.std.proofs.lemmas.Bool.{and_parts}
use Rattle.std.proofs.lemmas.Bool.Decides.{nat_tests}
use Rattle.std.proofs.lemmas.Option.{slice_get_within, slice_get_past}
use Rattle.std.proofs.lemmas.List.{length-drop}
use Rattle.std.specs.Cmp.{both_ways}
use Rattle.mcs_sets.specs.Sets.{has, members, single, such_that, union, Within}
use Rattle.mcs_sets.specs.Orders.{StateBefore}
use Rattle.mcs_sets.proofs.SetLemmas.{same_set, has-such_that, such_that-more}
use Rattle.mcs_base.specs.Listings.{IsAscending}
use Rattle.mcs_base.proofs.ListingLemmas.{members_listing}
use Rattle.mcs_base.proofs.Among.{get_among}
use Rattle.mcs_base.proofs.Distinct.{one_place, ascending_distinct}
use Rattle.mcs_base.proofs.Lists.{slice_get_below}
use Rattle.mcs_base.proofs.Ranges.{rising}
use Rattle.mcs_system.specs.Views.{at_places}
use Rattle.mcs_laws.proofs.Views.{has-at_places}
use Rattle.mcs_session.specs.Keys.{has_some, places_in}

module _ (set : ℕ) where
  abbrev at : ℕ → Option ℕ
  at k = slice_get (members set) k

  has-places : (part k : ℕ) → has (places_in set part) k ≡ (ltb k (length (members set)) && has_some part (at k))
  unfolding places_in
  has-places part k = has-such_that (length (members set)) (λ j. has_some part (slice_get (members set) j)) k

  -- at a place, the part has the member
  pub place_has : (part k v : ℕ) → at k ≡ Some v → has (places_in set part) k ≡ has part v
  place_has part k v is = let less = slice_get_within (members set) k v is in let t : ltb k (length (members set)) ≡ true = grind (arith, nat_tests) in
      has-places part k ∙ rw (t, is) refl

  -- a place is one of a member
  pub place_member : (part k : ℕ) → has (places_in set part) k ≡ true → (v : ℕ) × (at k ≡ Some v) × (has part v ≡ true)
  place_member part k is = by (at k) refl
    where
      inside : has_some part (at k) ≡ true
      inside = (and_parts (ltb k (length (members set))) (has_some part (at k)) (sym (has-places part k) ∙ is)).1

      by : (o : Option ℕ) → at k ≡ o → (v : ℕ) × (at k ≡ Some v) × (has part v ≡ true)
      by None e = absurd (true≢false (sym inside ∙ ap (has_some part) e))
      by (Some v) e = (v, e, sym (ap (has_some part) e) ∙ inside)

  ordered : IsAscending (λ a b. a < b) (members set)
  ordered = (members_listing set).ascending

  one : (j k v : ℕ) → at j ≡ Some v → at k ≡ Some v → j ≡ k
  one j k v a b = one_place (members set) (ascending_distinct (members set) ordered) j k v a b

  -- places within the set are those of the members that stand there
  pub places_again : (places : ℕ) → ((k : ℕ) → has places k ≡ true → k < length (members set)) → places_in set (at_places set places) ≡ places
  places_again places few = same_set _ places (λ k. both_ways _ _ (to k) (from k))
    where
      to : (k : ℕ) → has (places_in set (at_places set places)) k ≡ true → has places k ≡ true
      to k is = let (v, here, inside) = place_member (at_places set places) k is in
          let (j, there, on) = (has-at_places set places v).0 inside in
          ap (has places) (one k j v here there) ∙ on

      from : (k : ℕ) → has places k ≡ true → has (places_in set (at_places set places)) k ≡ true
      from k is = let (v, here) = slice_get_below (members set) k (few k is) in
          place_has (at_places set places) k v here ∙ (has-at_places set places v).1 (k, here, is)

  -- an earlier place has a lower member
  lower : (j k u v : ℕ) → at j ≡ Some u → at k ≡ Some v → j < k → u < v
  lower j k u v there here less = by (ltb u v) refl (eqb u v) refl
    where
      by : (s : Bool) → ltb u v ≡ s → (t : Bool) → eqb u v ≡ t → u < v
      by true e t f = grind (arith, nat_tests)
      by false e true f = absurd (let same : u ≡ v = grind (arith, nat_tests) in let twice : j ≡ k = one j k v (there ∙ ap (λ w. Some w) same) here in omega (arith, less, twice))
      by false e false f = absurd (let more : v < u = grind (arith, nat_tests) in let back : k < j = rising (members set) ordered k j v u here there more in omega (arith, less, back))

  -- the order of parts of the set is that of their places
  pub places_before : (p q : ℕ) → Within p set → StateBefore p q → StateBefore (places_in set p) (places_in set q)
  places_before p q inside b = let (k, here) = get_among b.at (members set) (((members_listing set).exactly b.at).1 (inside b.at b.in_first)) in
      record {
        at = k;
        in_first = place_has p k b.at here ∙ b.in_first;
        not_in_second = place_has q k b.at here ∙ b.not_in_second;
        same_below = λ j less. below k here j less;
      }
    where
      below : (k : ℕ) → at k ≡ Some b.at → (j : ℕ) → j < k → has (places_in set p) j ≡ has (places_in set q) j
      below k here j less = let long = slice_get_within (members set) k b.at here in
          let (u, there) = slice_get_below (members set) j (omega (arith, less, long)) in
          place_has p j u there ∙ b.same_below u (lower j k u b.at there here less) ∙ sym (place_has q j u there)

-- ---- the members one after the other
pub next_of : (xs : List ℕ) (k x : ℕ) (rest : List ℕ) → drop k xs ≡ x ∷ rest → (slice_get xs k ≡ Some x) × (drop (k + 1) xs ≡ rest)
next_of [] zero x rest e = let no : [] ≡ x ∷ rest = e in absurd (cc)
next_of [] (suc k) x rest e = let no : [] ≡ x ∷ rest = e in absurd (cc)
next_of (y ∷ ys) zero x rest e = let same : y ∷ ys ≡ x ∷ rest = e in (cc, cc)
next_of (y ∷ ys) (suc k) x rest e = let one : suc k + 1 ≡ suc (k + 1) = omega arith in let both = next_of ys k x rest e in (both.0, rw one both.1)

module _ (set part k x : ℕ) (rest : List ℕ) (next : drop k (members set) ≡ x ∷ rest) where
  abbrev test : ℕ → Bool
  test j = has_some part (slice_get (members set) j)

  test_is : test k ≡ has part x
  test_is = ap (has_some part) (next_of (members set) k x rest next).0

  pub place_more : has part x ≡ true → union (such_that k test) (single k) ≡ such_that (k + 1) test
  place_more on = sym (such_that-more k test ∙ rw (test_is, on) refl)

  pub place_same : has part x ≡ false → such_that k test ≡ such_that (k + 1) test
  place_same off = sym (such_that-more k test ∙ rw (test_is, off) refl)

-- all places, where no member is left
pub all_places : (set part count : ℕ) → drop count (members set) ≡ [] → such_that count (λ j. has_some part (slice_get (members set) j)) ≡ places_in set part
unfolding places_in
all_places set part count none = same_set _ _ (λ k. has-such_that count test k ∙ by k (ltb k (length (members set))) refl ∙ sym (has-such_that (length (members set)) test k))
  where
    test : ℕ → Bool
    test j = has_some part (slice_get (members set) j)

    long : length (members set) ≤ count
    long = let e : length (drop count (members set)) ≡ 0 = ap length none in omega (arith, e, length-drop count (members set))

    off : (a b : Bool) → (a && false) ≡ (b && false)
    off true true = refl
    off true false = refl
    off false true = refl
    off false false = refl

    by : (k : ℕ) (b : Bool) → ltb k (length (members set)) ≡ b → (ltb k count && test k) ≡ (ltb k (length (members set)) && test k)
    by k true e = let less : k < length (members set) = grind (arith, nat_tests) in let more : ltb k count ≡ true = (let far : k < count = omega (arith, less, long) in grind (arith, nat_tests)) in rw (e, more) refl
    by k false e = let past : length (members set) ≤ k = grind (arith, nat_tests) in rw (slice_get_past (members set) k past) (off (ltb k count) (ltb k (length (members set))))
