-- The next context in the import order, and the order as a whole.
use Rattle.std.proofs.Common.{◌≡◌, ℕ, ◌<◌, ◌≤◌, zero, suc, Bool, true, false, not, eqb, ltb, List, [], ◌∷◌, ◌++◌, length, get_or, refl, sym, ap, ◌∙◌, subst, inl, inr, ◌⊎◌, arith, true≢false, cond}
use Rattle.std.proofs.lemmas.Bool.{and_parts, and_from, cases_lt, cases_Bool}
use Rattle.std.proofs.lemmas.Bool.Decides.{nat_tests}
use Rattle.std.specs.List.{All, AllByRecursion}
use Rattle.std.proofs.lemmas.List.Elements.{All-from_recursion}
use Rattle.mcs_sets.specs.Sets.{has, single, minus, such_that, size}
use Rattle.mcs_sets.proofs.SetLemmas.{has-such_that, has-minus, has-single, has-empty, meets_or_not, below_power, members-empty}
use Rattle.mcs_sets.proofs.Lattice.{none_from_no_member, none_from_size, size-all, size-without}
use Rattle.mcs_base.specs.Listings.{IsAmong}
use Rattle.mcs_system.specs.Plain.{System}
use Rattle.mcs_system.specs.Imports.{imports, before_in, supplied, IsNextInOrder, FollowsOrder, IsImportOrder}
use Rattle.mcs_base.proofs.Among.{among_left, among_right, among_either, cases_among}
use Rattle.mcs_base.proofs.Each.{all_filter}
use Rattle.mcs_base.proofs.Numbered.{minimal_below}
use Rattle.mcs_import.specs.Reach.{AreAhead, AreStrict, IsFree, IsFirstFree}
use Rattle.mcs_import.proofs.ReachLemmas.{AreBelow, reaches_or_not, some_bound, some_ahead, ahead_strict}

-- ---- the first free one
-- where none is free, the set is empty
pub none_free : (rows : List ℕ) (set : ℕ) → AreStrict rows → ((k : ℕ) → has set k ≡ true → k < length rows) → ((j : ℕ) → j < length rows → ¬ IsFree rows set j) → set ≡ 0
none_free rows set strict known none =
    elim (minimal_below (λ i j. has (get_or rows i 0) j) (has set) (length rows) strict.irreflexive strict.transitive (length rows) (omega arith)) [
      | inl empty ↦ none_from_no_member set (λ k. elim (cases_Bool (has set k)) [ inl e ↦ absurd (true≢false (sym e ∙ empty k (known k e))) | inr e ↦ e ])
      | inr (i, (less, is, min)) ↦ absurd (none i less (is, λ meets. true≢false (sym meets.in_first ∙ min meets.member (known meets.member meets.in_second) meets.in_second)))
    ]

free_or_not : (rows : List ℕ) (set i : ℕ) → IsFree rows set i ⊎ (¬ IsFree rows set i)
free_or_not rows set i = elim (cases_Bool (has set i)) [
  | inr e ↦ inr (λ free. true≢false (sym free.0 ∙ e))
  | inl e ↦ elim (meets_or_not (get_or rows i 0) set (get_or rows i 0) (below_power (get_or rows i 0))) [
    | inl meets ↦ inr (λ free. free.1 meets)
    | inr apart ↦ inl (e, λ meets. true≢false (sym meets.in_second ∙ apart meets.member meets.in_first))
  ]
]

least_free : (rows : List ℕ) (set n : ℕ) → ((j : ℕ) → j < n → ¬ IsFree rows set j) ⊎ ((i : ℕ) × (i < n) × IsFree rows set i × ((j : ℕ) → j < i → ¬ IsFree rows set j))
least_free rows set zero = inl (λ j less. absurd (omega arith))
least_free rows set (suc n) = elim (least_free rows set n) [
  | inr (i, less, free, lowest) ↦ inr (i, omega arith, free, lowest)
  | inl none ↦ elim (free_or_not rows set n) [
    | inl free ↦ inr (n, omega arith, free, none)
    | inr taken ↦ inl (λ j less. elim (cases_lt j n) [ inl below ↦ none j below | inr past ↦ let same : n ≡ j = omega arith in subst (λ k. ¬ IsFree rows set k) same taken ])
  ]
]

pub some_free : (rows : List ℕ) (set : ℕ) → AreStrict rows → ((k : ℕ) → has set k ≡ true → k < length rows) → (set ≡ 0) ⊎ ((i : ℕ) × IsFirstFree rows set i)
some_free rows set strict known = elim (least_free rows set (length rows)) [
  | inl none ↦ inl (none_free rows set strict known none)
  | inr (i, less, free, lowest) ↦ inr (i, record { in_range = less; free = free; lowest = lowest })
]

-- ---- the contexts that are not taken
pub record AreUntaken (m : System) (taken : List ℕ) (set : ℕ) : Type 0 where
  pub to : (k : ℕ) → has set k ≡ true → (k < length m.contexts) × (¬ IsAmong k taken)
  pub from : (k : ℕ) → k < length m.contexts → ¬ IsAmong k taken → has set k ≡ true

pub untaken_all : (m : System) (n : ℕ) → n ≡ length m.contexts → AreUntaken m [] (such_that n (λ k. true))
untaken_all m n is = record {
  to = λ k e. (let less : ltb k n ≡ true = (and_parts (ltb k n) true (sym (has-such_that n (λ k. true) k) ∙ e)).0 in let below : k < n = grind (arith, nat_tests) in omega arith, λ h. h);
  from = λ k less none. has-such_that n (λ k. true) k ∙ (let below : k < n = omega arith in grind (arith, nat_tests));
}

pub untaken_less : (m : System) (taken : List ℕ) (set i : ℕ) → AreUntaken m taken set → AreUntaken m (taken ++ i ∷ []) (minus set (single i))
untaken_less m taken set i h = record {
  to = λ k e. (let parts = and_parts (has set k) (not (has (single i) k)) (sym (has-minus set (single i) k) ∙ e) in let old = h.to k parts.0 in let s = has-single i k in
      (old.0, λ among. elim (among_either k taken (i ∷ []) among) [ inl before ↦ old.1 before | inr now ↦ elim now [ inl same ↦ grind (arith, nat_tests, parts.1) | inr none ↦ none ] ]));
  from = λ k less none. (let old = h.from k less (λ among. none (among_left k taken (i ∷ []) among)) in let s = has-single i k in
      has-minus set (single i) k ∙ and_from _ _ old (other k (eqb k i) refl (λ same. none (among_right k taken (i ∷ []) (inl same))) s));
}
  where
    other : (k : ℕ) (v : Bool) → eqb k i ≡ v → ¬ (k ≡ i) → has (single i) k ≡ eqb k i → not (has (single i) k) ≡ true
    other k true e differ s = absurd (differ (grind (arith, nat_tests)))
    other k false e differ s = rw (s, e) refl

pub all_taken : (m : System) (taken : List ℕ) (set : ℕ) → AreUntaken m taken set → set ≡ 0 → FollowsOrder m taken []
all_taken m taken set h empty i less = elim (cases_among i taken) [
  | inl among ↦ among
  | inr none ↦ absurd (true≢false (sym (h.from i less none) ∙ ap (λ s. has s i) empty ∙ has-empty i))
]

-- the first of the untaken ones ahead of which nothing is untaken comes next
pub first_is_next : (m : System) (bound : ℕ) → AreBelow m bound → (rows : List ℕ) → AreAhead m rows → (taken : List ℕ) (set i : ℕ) → AreUntaken m taken set → IsFirstFree rows set i → IsNextInOrder m taken i
first_is_next m bound below rows ahead taken set i untaken first = record {
  ready = record {
    in_range = (untaken.to i first.free.0).0;
    untaken = (untaken.to i first.free.0).1;
    back = λ j less none reaches. elim (reaches_or_not m bound j i below) [
      | inl back ↦ back
      | inr never ↦ absurd (first.free.1 (record { member = j; in_first = ahead.from i j first.in_range (omega (arith, ahead.one_each)) reaches never; in_second = untaken.from j less none }))
    ];
  };
  lowest = λ j ready. elim (cases_lt j i) [
    | inr past ↦ past
    | inl less ↦ absurd (first.lowest j less (
      untaken.from j ready.in_range ready.untaken,
      λ meets.
          (let t = ahead.to j meets.member (omega (arith, ahead.one_each, ready.in_range)) meets.in_first in let u = untaken.to meets.member meets.in_second in t.2 (ready.back meets.member u.0 u.1 t.1)),
    ))
  ];
}

-- ---- the order as a whole
pub import_order_exists : (m : System) → (xs : List ℕ) × IsImportOrder m xs
import_order_exists m =
    let (bound, below) = some_bound m in let (rows, ahead) = some_ahead m in
    from bound below rows ahead (size (such_that (length m.contexts) (λ k. true))) [] (such_that (length m.contexts) (λ k. true)) (untaken_all m (length m.contexts) refl) (omega arith)
  where
    from : (bound : ℕ) → AreBelow m bound → (rows : List ℕ) → AreAhead m rows → (f : ℕ) (taken : List ℕ) (set : ℕ) → AreUntaken m taken set → size set ≤ f → (rest : List ℕ) × FollowsOrder m taken rest
    from bound below rows ahead zero taken set untaken few = ([], all_taken m taken set untaken (none_from_size set (omega arith)))
    from bound below rows ahead (suc f) taken set untaken few =
        elim (some_free rows set (ahead_strict m rows ahead) (λ k e. let t = untaken.to k e in omega (arith, t.0, ahead.one_each))) [
          | inl empty ↦ ([], all_taken m taken set untaken empty)
          | inr (i, first) ↦
              let (rest, follows) = from bound below rows ahead f (taken ++ i ∷ []) (minus set (single i)) (untaken_less m taken set i untaken) (omega (arith, few, size-without set i first.free.0)) in
              (i ∷ rest, (first_is_next m bound below rows ahead taken set i untaken first, follows))
        ]

follows_one : (m : System) (taken xs ys : List ℕ) → FollowsOrder m taken xs → FollowsOrder m taken ys → xs ≡ ys
follows_one m taken [] [] a b = refl
follows_one m taken [] (y ∷ ys) a b = absurd (b.0.ready.untaken (a y b.0.ready.in_range))
follows_one m taken (x ∷ xs) [] a b = absurd (a.0.ready.untaken (b x a.0.ready.in_range))
follows_one m taken (x ∷ xs) (y ∷ ys) a b =
    let one = a.0.lowest y b.0.ready in let other = b.0.lowest x a.0.ready in
    let same : y ≡ x = omega (arith, one, other) in
    ap (λ zs. x ∷ zs) (follows_one m (taken ++ x ∷ []) xs ys a.1 (subst (λ (z : ℕ). FollowsOrder m (taken ++ z ∷ []) ys) same b.1)) ∙ ap (λ z. z ∷ ys) (sym same)

pub import_order_is_one : (m : System) (xs ys : List ℕ) → IsImportOrder m xs → IsImportOrder m ys → xs ≡ ys
import_order_is_one m xs ys a b = follows_one m [] xs ys a b

follows_in_range : (m : System) (taken xs : List ℕ) → FollowsOrder m taken xs → AllByRecursion (λ j. j < length m.contexts) xs
follows_in_range m taken [] h = tt
follows_in_range m taken (x ∷ xs) h = (h.0.ready.in_range, follows_in_range m (taken ++ x ∷ []) xs h.1)

pub order_in_range : (m : System) (xs : List ℕ) → IsImportOrder m xs → AllByRecursion (λ j. j < length m.contexts) xs
order_in_range m xs h = follows_in_range m [] xs h

follows_length : (m : System) (taken xs : List ℕ) (set : ℕ) → AreUntaken m taken set → FollowsOrder m taken xs → length xs ≡ size set
follows_length m taken [] set untaken h = sym (ap (λ (s : ℕ). size s) (none_from_no_member set (λ k. elim (cases_Bool (has set k)) [ inl e ↦ (let t = untaken.to k e in absurd (t.1 (h k t.0))) | inr e ↦ e ])) ∙ ap length members-empty)
follows_length m taken (x ∷ xs) set untaken h =
    let rest = follows_length m (taken ++ x ∷ []) xs (minus set (single x)) (untaken_less m taken set x untaken) h.1 in
    omega (arith, rest, size-without set x (untaken.from x h.0.ready.in_range h.0.ready.untaken))

pub order_length : (m : System) (xs : List ℕ) → IsImportOrder m xs → length xs ≡ length m.contexts
order_length m xs h = follows_length m [] xs (such_that (length m.contexts) (λ k. true)) (untaken_all m (length m.contexts) refl) h ∙ size-all (length m.contexts)

pub order_all : (m : System) (xs : List ℕ) → IsImportOrder m xs → All (λ j. j < length m.contexts) xs
order_all m xs h = All-from_recursion (λ j. j < length m.contexts) xs (order_in_range m xs h)

pub before_each : (P : ℕ → Type 0) (xs : List ℕ) (i : ℕ) → AllByRecursion P xs → AllByRecursion P (before_in xs i)
before_each P [] i h = tt
before_each P (x ∷ xs) i h = at (eqb x i) (before_each P xs i h.1)
  where
    at : (v : Bool) → AllByRecursion P (before_in xs i) → AllByRecursion P (cond v [] (x ∷ before_in xs i))
    at true rest = tt
    at false rest = (h.0, rest)

pub supplied_in_range : (m : System) (xs : List ℕ) (i : ℕ) → IsImportOrder m xs → AllByRecursion (λ j. j < length m.contexts) (supplied m xs i)
supplied_in_range m xs i h = all_filter (λ j. j < length m.contexts) (imports m i) (before_in xs i) (before_each (λ j. j < length m.contexts) xs i (order_in_range m xs h))

pub supplied_all : (m : System) (xs : List ℕ) (i : ℕ) → IsImportOrder m xs → All (λ j. j < length m.contexts) (supplied m xs i)
supplied_all m xs i h = All-from_recursion (λ j. j < length m.contexts) (supplied m xs i) (supplied_in_range m xs i h)
