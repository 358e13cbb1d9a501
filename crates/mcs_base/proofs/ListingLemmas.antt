-- What holds of listings: there is at most one, sorting makes one, and one exists of each test of numbers.
use Rattle.std.proofs.Common.{◌≡◌, ◌+◌, ◌^◌, ◌<◌, ℕ, zero, suc, Bool, true, false, IsTrue, eqb, length, get_or, arith, List, [], ◌∷◌, ◌++◌, map, filter, cond, refl, sym, ap, ◌∙◌, subst, inl, inr, ◌⊎◌, ◌↔◌, true≢false, take}
use Rattle.std.proofs.lemmas.Bool.Decides.{nat_tests}
use Rattle.std.proofs.lemmas.Cmp.{ranked, nat_cmp_total, eq_by_cmp_equiv}
use Rattle.std.proofs.lemmas.List.Filters.{dedup_is}
use Rattle.std.proofs.lemmas.List.Kept.{Contains-dedup, Contains-from_dedup, IsStrictlySortedBy-dedup}
use Rattle.std.proofs.lemmas.List.Sorted.{Contains-permutation, IsPermutation-sym}
use Rattle.std.specs.declared.cmp.Ordering.{Ordering}
use Rattle.std.specs.declared.cmp.Ordering.TheVariants.{Less, Equal, Greater}
use Rattle.std.specs.Cmp.{IsTotalOrder, IsEquivalence, Equal-is}
use Rattle.std.specs.List.{AllByRecursion, dedup}
use Rattle.std.specs.List.Retain.{IsFiltered, DiffersFromLast}
use Rattle.std.specs.List.Sorted.{IsPermutation, IsSorted, IsStrictlySortedBy}
use Rattle.std.specs.Ordering.{MatchOrdering, nat_cmp, eq_by_cmp}
use Rattle.mcs_sets.specs.Sets.{has, members, members_from}
use Rattle.mcs_sets.specs.Orders.{StateBefore, PairBefore}
use Rattle.mcs_sets.proofs.SetLemmas.{members_from-each, members-contains, members_below, PairBefore-asymmetric}
use Rattle.mcs_base.specs.StateOrder.{state_cmp, state_cmp_total, less_is, equal_is, StateBefore-transitive, StateBefore-total}
use Rattle.mcs_base.specs.PairOrder.{pair_cmp, pair_cmp_total, pair_less_is, pair_equal_is, PairBefore-transitive, PairBefore-total}
use Rattle.mcs_base.specs.Listings.{IsAscending, IsAmong, IsListing}
use Rattle.mcs_base.specs.Minimal.{IsMinimal}
use Rattle.mcs_base.proofs.Among.{among_left, among_right, among_either, among_filter, filter_among, among_map, map_among as from_map, among_take_more, among_at}
use Rattle.mcs_base.proofs.Ascending.{ascending_append, ascending_filter, ascending_map, before_at}
use Rattle.std.proofs.lemmas.List.{get_or-take, length-take}
use Rattle.mcs_base.proofs.Booleans.{test_of, test_of-tells}
use Rattle.mcs_base.proofs.NumberCases.{cases_order}
pub use Rattle.mcs_base.proofs.Among.{among_from_contains, contains_from_among, among_map as map_among}
pub use Rattle.mcs_base.proofs.Each.{all_among, all_from_among}

module _ {A : Type 0} (before : A → A → Type 0) (asymmetric : (x y : A) → before x y → before y x → ⊥) where
  same_head : (x y : A) (xs ys : List A) → AllByRecursion (before x) xs → AllByRecursion (before y) ys → (x ≡ y) ⊎ IsAmong x ys → (y ≡ x) ⊎ IsAmong y xs → x ≡ y
  same_head x y xs ys all all' (inl e) there = e
  same_head x y xs ys all all' (inr here) (inl e) = sym e
  same_head x y xs ys all all' (inr here) (inr there) = absurd (asymmetric x y (all_among (before x) xs y all there) (all_among (before y) ys x all' here))

  in_rest : (x y z : A) (xs ys : List A) → x ≡ y → AllByRecursion (before x) xs → IsAmong z xs → (z ≡ y) ⊎ IsAmong z ys → IsAmong z ys
  in_rest x y z xs ys same all among (inl e) = let later : before x z = all_among (before x) xs z all among in
      let itself : before x x = subst (before x) (e ∙ sym same) later in absurd (asymmetric x x itself itself)
  in_rest x y z xs ys same all among (inr rest) = rest

  same_list : (xs ys : List A) → IsAscending before xs → IsAscending before ys → ((x : A) → IsAmong x xs → IsAmong x ys) → ((x : A) → IsAmong x ys → IsAmong x xs) → xs ≡ ys
  same_list [] [] up up' to from = refl
  same_list [] (y ∷ ys) up up' to from = absurd (from y (inl refl))
  same_list (x ∷ xs) [] up up' to from = absurd (to x (inl refl))
  same_list (x ∷ xs) (y ∷ ys) up up' to from =
      let same : x ≡ y = same_head x y xs ys up.0 up'.0 (to x (inl refl)) (from y (inl refl)) in
      let rest : xs ≡ ys = same_list xs ys up.1 up'.1
      (λ z among. in_rest x y z xs ys same up.0 among (to z (inr among)))
      (λ z among. in_rest y x z ys xs (sym same) up'.0 among (from z (inr among))) in
      ap (λ z. z ∷ xs) same ∙ ap (λ zs. y ∷ zs) rest

  pub same_listing : (P : A → Type 0) (xs ys : List A) → IsListing P before xs → IsListing P before ys → xs ≡ ys
  same_listing P xs ys l l' = same_list xs ys l.ascending l'.ascending
      (λ x among. (l'.exactly x).1 ((l.exactly x).0 among)) (λ x among. (l.exactly x).1 ((l'.exactly x).0 among))

pub none_listed : {A : Type 0} (P : A → Type 0) (before : A → A → Type 0) (xs : List A) → length xs ≡ 0 → IsListing P before xs → (x : A) → ¬ P x
none_listed P before [] none l x p = (l.exactly x).1 p
none_listed P before (y ∷ ys) none l x p = absurd (omega arith)

pub first_listed : {A : Type 0} (P : A → Type 0) (before : A → A → Type 0) (xs : List A) (d : A) → 0 < length xs → IsListing P before xs → (x : A) → P x → (get_or xs 0 d ≡ x) ⊎ before (get_or xs 0 d) x
first_listed P before [] d some l x p = absurd (omega arith)
first_listed P before (y ∷ ys) d some l x p = at ((l.exactly x).1 p) l.ascending
  where
    at : IsAmong x (y ∷ ys) → IsAscending before (y ∷ ys) → (y ≡ x) ⊎ before y x
    at (inl e) up = inl (sym e)
    at (inr h) up = inr (all_among (before y) ys x up.0 h)

-- ---- sorting makes a listing
-- an order of std that has the same sense as `before`
pub record Sorts {A : Type 0} (before : A → A → Type 0) (cmp : A → A → Ordering) : Type 0 where
  pub total : IsTotalOrder cmp
  pub less : (x y : A) → cmp x y ≡ Less → before x y
  pub equal : (x y : A) → cmp x y ≡ Equal → x ≡ y

module _ {A : Type 0} (before : A → A → Type 0) (cmp : A → A → Ordering) (sorts : Sorts before cmp) where
  ascending : (xs : List A) → IsStrictlySortedBy cmp xs → IsAscending before xs
  unfolding IsStrictlySortedBy
  ascending [] up = tt
  ascending (x ∷ xs) up = (all_from_among (before x) xs (λ y among. sorts.less x y (all_among (λ y. cmp x y ≡ Less) xs y up.0 among)), ascending xs up.1)

  same_values : (same : A → A → Bool) → ((x y : A) → same x y ≡ eq_by_cmp cmp x y) → IsEquivalence same
  same_values same ties =
      let equal = eq_by_cmp_equiv sorts.total in
      record {
        refl = λ x. ties x x ∙ equal.refl x;
        symm = λ x y. ties x y ∙ equal.symm x y ∙ sym (ties y x);
        congr = λ x y z e. ties x z ∙ equal.congr x y z (sym (ties x y) ∙ e) ∙ sym (ties y z);
      }

  -- what `sort_unstable` and then `dedup` leave of a list is the listing of its members
  pub listing_of_sorted : (same : A → A → Bool) → ((x y : A) → same x y ≡ eq_by_cmp cmp x y) → (xs ys zs : List A) → IsPermutation xs ys → IsSorted cmp ys → IsFiltered (DiffersFromLast same) [] ys zs → IsListing (λ x. IsAmong x xs) before zs
  listing_of_sorted same ties xs ys zs moved up kept =
      let is : zs ≡ dedup same ys = dedup_is same ys zs kept in
      let values : (x y : A) → same x y ≡ true → x ≡ y = λ x y e. sorts.equal x y ((Equal-is (cmp x y)).0 (sym (ties x y) ∙ e)) in
      rw is (record {
        exactly = λ x. (
          λ among. among_from_contains x xs (Contains-permutation ys xs x (IsPermutation-sym xs ys moved) (Contains-from_dedup same ys x (contains_from_among x _ among))),
          λ among. among_from_contains x _ (Contains-dedup (same_values same ties) values ys x (Contains-permutation xs ys x moved (contains_from_among x xs among))),
        );
        ascending = ascending _ (IsStrictlySortedBy-dedup sorts.total ties ys up);
      })

pub states_sort : Sorts StateBefore state_cmp
states_sort = record { total = state_cmp_total; less = less_is; equal = equal_is }

pub pairs_sort : Sorts PairBefore pair_cmp
pairs_sort = record { total = pair_cmp_total; less = pair_less_is; equal = pair_equal_is }

pub numbers_sort : Sorts (λ (x y : ℕ). x < y) nat_cmp
numbers_sort = record { total = nat_cmp_total; less = λ x y. less x y (nat_cmp x y) (ranked x y _ refl); equal = λ x y. equal x y (nat_cmp x y) (ranked x y _ refl) }
  where
    less : (x y : ℕ) (o : Ordering) → MatchOrdering o (x < y) (x ≡ y) (y < x) → o ≡ Less → x < y
    less x y Less m e = m
    less x y Equal m e = absurd (cc)
    less x y Greater m e = absurd (cc)

    equal : (x y : ℕ) (o : Ordering) → MatchOrdering o (x < y) (x ≡ y) (y < x) → o ≡ Equal → x ≡ y
    equal x y Less m e = absurd (cc)
    equal x y Equal m e = m
    equal x y Greater m e = absurd (cc)

pub number_tie : (x y : ℕ) → eqb x y ≡ eq_by_cmp nat_cmp x y
number_tie x y = grind (arith, nat_tests)

-- ---- new listings from others
module _ {A : Type 0} (before : A → A → Type 0) where
  pub IsListing-same : (P Q : A → Type 0) (xs : List A) → ((x : A) → P x ↔ Q x) → IsListing P before xs → IsListing Q before xs
  IsListing-same P Q xs same l = record {
    exactly = λ x. (λ among. (same x).0 ((l.exactly x).0 among), λ q. (l.exactly x).1 ((same x).1 q));
    ascending = l.ascending;
  }

  pub IsListing-nil : (P : A → Type 0) → ((x : A) → ¬ P x) → IsListing P before []
  IsListing-nil P none = record { exactly = λ x. (λ among. absurd among, λ p. none x p); ascending = tt }

  pub IsListing-cons : (P : A → Type 0) (x : A) (xs : List A) → ((y : A) → P y → before x y) → IsListing P before xs → IsListing (λ y. (y ≡ x) ⊎ P y) before (x ∷ xs)
  IsListing-cons P x xs first l = record {
    exactly = λ y. (
      λ among. elim among [ inl e ↦ inl e | inr h ↦ inr ((l.exactly y).0 h) ],
      λ either. elim either [ inl e ↦ inl e | inr p ↦ inr ((l.exactly y).1 p) ],
    );
    ascending = (all_from_among (before x) xs (λ y among. first y ((l.exactly y).0 among)), l.ascending);
  }

  -- each value of the first comes before each of the second
  pub IsListing-append : (P Q : A → Type 0) (xs ys : List A) → ((x y : A) → P x → Q y → before x y) → IsListing P before xs → IsListing Q before ys → IsListing (λ x. P x ⊎ Q x) before (xs ++ ys)
  IsListing-append P Q xs ys apart l l' = record {
    exactly = λ x. (
      λ among. elim (among_either x xs ys among) [ inl a ↦ inl ((l.exactly x).0 a) | inr b ↦ inr ((l'.exactly x).0 b) ],
      λ either. elim either [ inl p ↦ among_left x xs ys ((l.exactly x).1 p) | inr q ↦ among_right x xs ys ((l'.exactly x).1 q) ],
    );
    ascending = ascending_append before xs ys (λ x y a b. apart x y ((l.exactly x).0 a) ((l'.exactly y).0 b)) l.ascending l'.ascending;
  }

  -- one more at the end
  pub IsListing-push : (P : A → Type 0) (xs : List A) (x : A) → ((y : A) → P y → before y x) → IsListing P before xs → IsListing (λ y. P y ⊎ (y ≡ x)) before (xs ++ x ∷ [])
  IsListing-push P xs x last l = IsListing-append P (λ y. y ≡ x) xs (x ∷ []) (λ y z p e. subst (before y) (sym e) (last y p)) l
      (record { exactly = λ y. (λ among. elim among [ inl e ↦ e | inr none ↦ absurd none ], λ e. inl e); ascending = (tt, tt) })

  -- those that pass a test
  pub IsListing-filter : (P : A → Type 0) (p : A → Bool) (xs : List A) → IsListing P before xs → IsListing (λ x. P x × IsTrue (p x)) before (filter p xs)
  IsListing-filter P p xs l = record {
    exactly = λ x. (
      λ among. let both = filter_among p x xs among in ((l.exactly x).0 both.0, both.1),
      λ both. among_filter p x xs ((l.exactly x).1 both.0) both.1,
    );
    ascending = ascending_filter before p xs l.ascending;
  }

-- ---- going along an ascending list, those for which Q holds are kept
module _ {A : Type 0} (before : A → A → Type 0) (Q : A → Type 0) (xs : List A) (i : ℕ) (x : A) (less : i < length xs) (here : x ≡ get_or xs i x) where
  pub kept_more : IsAscending before xs → (ys : List A) → Q x → IsListing (λ y. IsAmong y (take i xs) × Q y) before ys → IsListing (λ y. IsAmong y (take (i + 1) xs) × Q y) before (ys ++ x ∷ [])
  kept_more up ys is l = IsListing-same before _ _ (ys ++ x ∷ []) (λ y. (
    λ h. elim h [ inl both ↦ ((among_take_more xs i x less here y).1 (inl both.0), both.1) | inr e ↦ ((among_take_more xs i x less here y).1 (inr e), subst Q (sym e) is) ],
    λ both. elim ((among_take_more xs i x less here y).0 both.0) [ inl among ↦ inl (among, both.1) | inr e ↦ inr e ],
  )) (IsListing-push before _ ys x (λ y both. subst (before y) (sym here) (before_at before xs i x less up y both.0)) l)

  pub left_out : (ys : List A) → ¬ Q x → IsListing (λ y. IsAmong y (take i xs) × Q y) before ys → IsListing (λ y. IsAmong y (take (i + 1) xs) × Q y) before ys
  left_out ys not l = IsListing-same before _ _ ys (λ y. (
    λ both. ((among_take_more xs i x less here y).1 (inl both.0), both.1),
    λ both. elim ((among_take_more xs i x less here y).0 both.0) [ inl among ↦ (among, both.1) | inr e ↦ absurd (not (subst Q e both.1)) ],
  )) l

module _ {A B : Type 0} (f : A → B) where
  -- what a function that keeps the order makes of a listing
  pub IsListing-map : (before : A → A → Type 0) (before' : B → B → Type 0) → ((x y : A) → before x y → before' (f x) (f y)) → (P : A → Type 0) (xs : List A) → IsListing P before xs → IsListing (λ y. (x : A) × P x × (y ≡ f x)) before' (map f xs)
  IsListing-map before before' keeps P xs l = record {
    exactly = λ y. (
      λ among. let (x, there, e) = from_map f y xs among in (x, (l.exactly x).0 there, e),
      λ (x, p, e). subst (λ (z : B). IsAmong z (map f xs)) (sym e) (among_map f x xs ((l.exactly x).1 p)),
    );
    ascending = ascending_map before f before' keeps xs l.ascending;
  }

-- ---- there is a listing of the numbers below a bound that pass a test
module _ {A : Type 0} (before : A → A → Type 0) (transitive : (x y z : A) → before x y → before y z → before x z) (total : (x y : A) → (x ≡ y) ⊎ (before x y ⊎ before y x)) where
  -- an ascending list with one more value
  pub with_one : (x : A) (xs : List A) → IsAscending before xs → (ys : List A) × IsAscending before ys × ((z : A) → IsAmong z ys ↔ ((z ≡ x) ⊎ IsAmong z xs))
  with_one x [] up = (x ∷ [], (tt, tt), λ z. (λ h. h, λ h. h))
  with_one x (y ∷ ys) up = elim (total x y) [
    | inl same ↦ (y ∷ ys, up, λ z. (λ h. inr h, λ h. elim h [ inl e ↦ inl (e ∙ same) | inr h' ↦ h' ]))
    | inr (inl first) ↦ (x ∷ (y ∷ ys), ((first, all_from_among (before x) ys (λ z among. transitive x y z first (all_among (before y) ys z up.0 among))), up), λ z. (λ h. h, λ h. h))
    | inr (inr later) ↦ let (zs, up', is) = with_one x ys up.1 in (
      y ∷ zs,
      (all_from_among (before y) zs (λ z among. elim ((is z).0 among) [ inl e ↦ subst (before y) (sym e) later | inr h ↦ all_among (before y) ys z up.0 h ]), up'),
      λ z. (
        λ h. elim h [ inl e ↦ inr (inl e) | inr h' ↦ elim ((is z).0 h') [ inl e ↦ inl e | inr h'' ↦ inr (inr h'') ] ],
        λ h. elim h [ inl e ↦ inr ((is z).1 (inl e)) | inr h' ↦ elim h' [ inl e ↦ inl e | inr h'' ↦ inr ((is z).1 (inr h'')) ] ],
      ),
    )
  ]

  pub listing_with_one : (P : A → Type 0) (x : A) (xs : List A) → IsListing P before xs → (ys : List A) × IsListing (λ z. (z ≡ x) ⊎ P z) before ys
  listing_with_one P x xs l = let (ys, up, is) = with_one x xs l.ascending in (
    ys,
    record {
      exactly = λ z. (
        λ among. elim ((is z).0 among) [ inl e ↦ inl e | inr h ↦ inr ((l.exactly z).0 h) ],
        λ either. (is z).1 (elim either [ inl e ↦ inl e | inr p ↦ inr ((l.exactly z).1 p) ]),
      );
      ascending = up;
    },
  )

pub listing_below : (before : ℕ → ℕ → Type 0) → ((x y z : ℕ) → before x y → before y z → before x z) → ((x y : ℕ) → (x ≡ y) ⊎ (before x y ⊎ before y x)) → (p : ℕ → Bool) (bound : ℕ) → (xs : List ℕ) × IsListing (λ x. (x < bound) × IsTrue (p x)) before xs
listing_below before transitive total p zero = ([], IsListing-nil before _ (λ x h. absurd (omega (arith, h.0))))
listing_below before transitive total p (suc n) = let (xs, l) = listing_below before transitive total p n in at (p n) refl xs l
  where
    last : (x : ℕ) (b : Bool) → eqb x n ≡ b → x < suc n → (x ≡ n) ⊎ (x < n)
    last x true e less = inl (grind (arith, nat_tests))
    last x false e less = inr (grind (arith, nat_tests))

    at : (b : Bool) → p n ≡ b → (xs : List ℕ) → IsListing (λ x. (x < n) × IsTrue (p x)) before xs → (ys : List ℕ) × IsListing (λ x. (x < suc n) × IsTrue (p x)) before ys
    at true is xs l = let (ys, l') = listing_with_one before transitive total _ n xs l in (
      ys,
      IsListing-same before _ _ ys (λ x. (
        λ h. elim h [ inl e ↦ (omega arith, ap p e ∙ is) | inr h' ↦ (omega (arith, h'.0), h'.1) ],
        λ h. elim (last x (eqb x n) refl h.0) [ inl e ↦ inl e | inr less ↦ inr (less, h.1) ],
      )) l',
    )
    at false is xs l = (
      xs,
      IsListing-same before _ _ xs (λ x. (
        λ h. (omega (arith, h.0), h.1),
        λ h. elim (last x (eqb x n) refl h.0) [ inl e ↦ absurd (true≢false (sym h.1 ∙ ap p e ∙ is)) | inr less ↦ (less, h.1) ],
      )) l,
    )

pub states_of_test : (n : ℕ) (p : ℕ → Bool) → (xs : List ℕ) × IsListing (λ s. (s < 2 ^ n) × IsTrue (p s)) StateBefore xs
states_of_test n p = listing_below StateBefore StateBefore-transitive StateBefore-total p (2 ^ n)

pub pairs_of_test : (n : ℕ) (p : ℕ → Bool) → (xs : List ℕ) × IsListing (λ s. (s < 2 ^ n) × IsTrue (p s)) PairBefore xs
pairs_of_test n p = listing_below PairBefore PairBefore-transitive PairBefore-total p (2 ^ n)

-- ---- the minimal ones
pub minimal_same : (P Q : ℕ → Type 0) → ((s : ℕ) → P s ↔ Q s) → (s : ℕ) → IsMinimal P s → IsMinimal Q s
minimal_same P Q same s h = record { one = (same s).0 h.one; least = λ t q within. h.least t ((same t).1 q) within }

-- ---- the members of a set are a listing
members_from-ascending : (w i s : ℕ) → IsAscending (λ (a b : ℕ). a < b) (members_from i w s)
unfolding members_from
members_from-ascending zero i s = tt
members_from-ascending (suc w) i s = at (has s i) (members_from-ascending w (i + 1) s)
  where
    at : (b : Bool) → IsAscending (λ (x y : ℕ). x < y) (members_from (i + 1) w s) → IsAscending (λ (x y : ℕ). x < y) (cond b (i ∷ members_from (i + 1) w s) (members_from (i + 1) w s))
    at true rest = (members_from-each (λ k. i < k) w (i + 1) s (λ k from is. omega arith), rest)
    at false rest = rest

pub members_listing : (s : ℕ) → IsListing (λ k. IsTrue (has s k)) (λ a b. a < b) (members s)
unfolding members
members_listing s = record {
  exactly = λ k. (
    λ among. (members-contains s k).0 (contains_from_among k (members s) among),
    λ is. among_from_contains k (members s) ((members-contains s k).1 is),
  );
  ascending = members_from-ascending s 0 s;
}

pub members_all_below : (s n : ℕ) → s < 2 ^ n → AllByRecursion (λ k. k < n) (members s)
members_all_below s n small = all_from_among (λ k. k < n) (members s) (λ k among. members_below s n k small (((members_listing s).exactly k).0 among))

-- what ascends puts the earlier place before the later one
pub ascending_at : (before : ℕ → ℕ → Type 0) (xs : List ℕ) (i j d : ℕ) → i < j → j < length xs → IsAscending before xs → before (get_or xs i d) (get_or xs j d)
ascending_at before xs i j d less bound up =
    before_at before xs j d bound up (get_or xs i d) (subst (λ v. IsAmong v (take j xs)) (get_or-take j xs i d less) (among_at (take j xs) i d (omega (arith, length-take j xs))))

-- a listing of what holds of one value alone
pub listed_alone : (P : ℕ → Type 0) (x : ℕ) (xs : List ℕ) → ((y : ℕ) → P y ↔ (y ≡ x)) → IsListing P PairBefore xs → xs ≡ x ∷ []
listed_alone P x xs only l = same_listing PairBefore PairBefore-asymmetric P xs (x ∷ []) l (record {
  exactly = λ y. (λ among. elim among [ inl e ↦ (only y).1 e | inr none ↦ absurd none ], λ p. inl ((only y).0 p));
  ascending = (tt, tt);
})

-- what is decided, and holds of sets of numbers below n alone, has a listing
pub decided_listed : (P : ℕ → Type 0) (n : ℕ) → ((s : ℕ) → P s ⊎ (¬ P s)) → ((s : ℕ) → P s → s < 2 ^ n) → (xs : List ℕ) × IsListing P PairBefore xs
decided_listed P n decides small = let (xs, listing) = pairs_of_test n (λ s. test_of (decides s)) in (
  xs,
  IsListing-same PairBefore _ P xs (λ s. (λ h. (test_of-tells (decides s)).0 h.1, λ p. (small s p, (test_of-tells (decides s)).1 p))) listing,
)

-- a list of numbers in order
pub listing_of_numbers : (xs : List ℕ) → (ys : List ℕ) × IsListing (λ x. IsAmong x xs) (λ a b. a < b) ys
listing_of_numbers [] = ([], record { exactly = λ x. (λ h. h, λ h. h); ascending = tt })
listing_of_numbers (x ∷ xs) =
    let (ys, listing) = listing_of_numbers xs in
    listing_with_one (λ (a b : ℕ). a < b) (λ a b c h k. omega (arith, h, k)) cases_order (λ z. IsAmong z xs) x ys listing
