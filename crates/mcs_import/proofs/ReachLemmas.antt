-- Reachability through imports, and the contexts ahead of a context.
use Rattle.std.proofs.Common.{◌≡◌, ℕ, ◌+◌, ◌<◌, ◌≤◌, zero, suc, Bool, true, false, not, ◌&&◌, cond, eqb, ltb, List, [], ◌∷◌, ◌++◌, length, map, get_or, Option, Some, None, slice_get, ◌↔◌, refl, sym, ap, ◌∙◌, subst, inl, inr, ◌⊎◌, arith, true≢false}
use Rattle.std.proofs.lemmas.Bool.{and_parts, and_from, or_cases, or_left, or_right, cases_lt, cases_Bool, not-true, false_from_ne_true, not_from_false}
use Rattle.std.proofs.lemmas.Bool.Decides.{nat_tests}
use Rattle.std.proofs.lemmas.List.{length-map, get_or-map}
use Rattle.std.proofs.lemmas.List.FromFn.{length-range_with_len, get_or-map-range_with_len}
use Rattle.std.specs.Cmp.{both_ways}
use Rattle.std.proofs.Math.Bool.{and-false, or-false}
use Rattle.std.specs.List.{list_any, range_with_len}
use Rattle.mcs_sets.specs.Sets.{has, union, such_that, Meets}
use Rattle.mcs_sets.proofs.SetLemmas.{has-union, has-such_that}
use Rattle.mcs_system.specs.Plain.{Read, Bridge, System}
use Rattle.mcs_system.specs.Faults.{IsValid, reads_of}
use Rattle.mcs_system.specs.Imports.{imports, Reaches, directly, through}
use Rattle.mcs_base.specs.Listings.{IsAmong}
use Rattle.mcs_system.specs.Rows.{is_read_into, inputs_of}
use Rattle.mcs_system.specs.Systems.{same_read, variables, variables_of, IsVariable}
use Rattle.mcs_base.proofs.Among.{any_get, get_any, get_among, among_get}
use Rattle.mcs_system.proofs.Sameness.{same_read-is, same_read-itself}
use Rattle.mcs_system.proofs.VariableLemmas.{read_is_variable, has-inputs_of, has-variables_of}
use Rattle.mcs_system.proofs.ValidLemmas.{read_in_range}
use Rattle.mcs_import.specs.Reach.{reaches_below, import_row, rows_through, ahead_row, AreReached, AreAhead, AreStrict}
use Rattle.mcs_import.specs.Reach.{through as passes}

-- ---- passing through one number after the other
module _ (edge : ℕ → ℕ → Bool) where
  step_cases : (k i j : ℕ) → reaches_below edge (suc k) i j ≡ true → (reaches_below edge k i j ≡ true) ⊎ ((reaches_below edge k i k ≡ true) × (reaches_below edge k k j ≡ true))
  step_cases k i j e = elim (or_cases (reaches_below edge k i j) (reaches_below edge k i k && reaches_below edge k k j) e) [
    | inl a ↦ inl a
    | inr b ↦ inr (and_parts (reaches_below edge k i k) (reaches_below edge k k j) b)
  ]

  pub stays : (k i j : ℕ) → reaches_below edge k i j ≡ true → reaches_below edge (suc k) i j ≡ true
  stays k i j e = or_left (reaches_below edge k i j) (reaches_below edge k i k && reaches_below edge k k j) e

  joins : (k i j : ℕ) → reaches_below edge k i k ≡ true → reaches_below edge k k j ≡ true → reaches_below edge (suc k) i j ≡ true
  joins k i j a b = or_right (reaches_below edge k i j) (reaches_below edge k i k && reaches_below edge k k j) (and_from (reaches_below edge k i k) (reaches_below edge k k j) a b)

  pub contains : (k i j : ℕ) → edge i j ≡ true → reaches_below edge k i j ≡ true
  contains zero i j e = e
  contains (suc k) i j e = stays k i j (contains k i j e)

  -- what is reached through a number below k is reached
  pub closed : (k i l j : ℕ) → l < k → reaches_below edge k i l ≡ true → reaches_below edge k l j ≡ true → reaches_below edge k i j ≡ true
  closed zero i l j less a b = absurd (omega arith)
  closed (suc k) i l j less a b = elim (cases_lt l k) [
    | inl below ↦ elim (step_cases k i l a) [
      | inl a0 ↦ elim (step_cases k l j b) [
        | inl b0 ↦ stays k i j (closed k i l j below a0 b0)
        | inr (b1, b2) ↦ joins k i j (closed k i l k below a0 b1) b2
      ]
      | inr (a1, a2) ↦ elim (step_cases k l j b) [
        | inl b0 ↦ joins k i j a1 (closed k k l j below a2 b0)
        | inr (b1, b2) ↦ joins k i j a1 b2
      ]
    ]
    | inr past ↦ let same : l ≡ k = omega arith in
        joins k i j
        (elim (step_cases k i l a) [ inl a0 ↦ ap (reaches_below edge k i) (sym same) ∙ a0 | inr (a1, a2) ↦ a1 ])
        (elim (step_cases k l j b) [ inl b0 ↦ ap (λ n. reaches_below edge k n j) (sym same) ∙ b0 | inr (b1, b2) ↦ b2 ])
  ]

-- ---- what the rows say
pub Reaches-trans : (m : System) (i j k : ℕ) → Reaches m i j → Reaches m j k → Reaches m i k
Reaches-trans m i j k (directly a b e) s = through i j k e s
Reaches-trans m i j k (through a l b e r) s = through i l k e (Reaches-trans m l j k r s)

pub is_reached : (m : System) (k i j : ℕ) → reaches_below (imports m) k i j ≡ true → Reaches m i j
is_reached m zero i j e = directly i j e
is_reached m (suc k) i j e = elim (step_cases (imports m) k i j e) [
  | inl a ↦ is_reached m k i j a
  | inr (a, b) ↦ Reaches-trans m i k j (is_reached m k i k a) (is_reached m k k j b)
]

-- every import is of a context below the bound
abbrev pub AreBelow : System → ℕ → Type 0
AreBelow m bound = (i j : ℕ) → imports m i j ≡ true → j < bound

pub reaches_is : (m : System) (bound i j : ℕ) → AreBelow m bound → Reaches m i j → reaches_below (imports m) bound i j ≡ true
reaches_is m bound i j below (directly a b e) = contains (imports m) bound i j e
reaches_is m bound i j below (through a l b e r) = closed (imports m) bound i l j (below i l e) (contains (imports m) bound i l e) (reaches_is m bound l j below r)

pub reached_below : (m : System) (bound i j : ℕ) → AreBelow m bound → Reaches m i j → j < bound
reached_below m bound i j below (directly a b e) = below i j e
reached_below m bound i j below (through a l b e r) = reached_below m bound l j below r

pub reaches_or_not : (m : System) (bound i j : ℕ) → AreBelow m bound → Reaches m i j ⊎ (¬ Reaches m i j)
reaches_or_not m bound i j below = elim (cases_Bool (reaches_below (imports m) bound i j)) [
  | inl e ↦ inl (is_reached m bound i j e)
  | inr e ↦ inr (λ r. true≢false (sym (reaches_is m bound i j below r) ∙ e))
]

-- in a valid system each import is of a context
pub imports_below : (m : System) → IsValid m → AreBelow m (length m.contexts)
imports_below m valid i j e =
    let (k, b, at_k, test) = any_get (λ (b : Bridge). eqb b.target i && list_any (λ (r : Read). eqb r.context j) (reads_of b)) m.bridges e in
    let parts = and_parts (eqb b.target i) (list_any (λ (r : Read). eqb r.context j) (reads_of b)) test in
    let (l, r, at_l, same) = any_get (λ (r : Read). eqb r.context j) (reads_of b) parts.1 in
    let less = read_in_range m valid k l b r at_k at_l in
    let e' : r.context ≡ j = grind (arith, nat_tests) in omega arith

-- ---- the code's rows
pub has-import_row : (m : System) → IsValid m → (i j : ℕ) → has (import_row m i) j ≡ imports m i j
unfolding import_row
has-import_row m valid i j = has-such_that (length m.contexts) (imports m i) j ∙ at (imports m i j) refl
  where
    at : (v : Bool) → imports m i j ≡ v → (ltb j (length m.contexts) && v) ≡ v
    at true e = let less = imports_below m valid i j e in grind (arith, nat_tests)
    at false e = and-false (ltb j (length m.contexts))

-- the rows after passing through the numbers below k
pub record ArePassed (m : System) (k : ℕ) (rows : List ℕ) : Type 0 where
  pub one_each : length rows ≡ length m.contexts
  pub passed : (i j : ℕ) → i < length rows → has (get_or rows i 0) j ≡ reaches_below (imports m) k i j

pub rows_begin : (m : System) → IsValid m → (rows : List ℕ) → rows ≡ map (import_row m) (range_with_len 0 (length m.contexts)) → ArePassed m 0 rows
rows_begin m valid rows is = rw is (record {
  one_each = length-map (range_with_len 0 (length m.contexts)) (import_row m) ∙ length-range_with_len 0 (length m.contexts);
  passed = λ i j less. ap (λ s. has s j) (get_or-map-range_with_len (import_row m) 0 (length m.contexts) i i 0 (omega (arith, less, length-map (range_with_len 0 (length m.contexts)) (import_row m), length-range_with_len 0 (length m.contexts))) (omega arith)) ∙ has-import_row m valid i j;
})

pub rows_pass : (m : System) (k : ℕ) (rows next : List ℕ) → k < length rows → next ≡ rows_through k rows → ArePassed m k rows → ArePassed m (k + 1) next
rows_pass m k rows next less is h = rw is (record {
  one_each = length-map rows (passes k (get_or rows k 0)) ∙ h.one_each;
  passed = λ i j inside. (let small : i < length rows = omega (arith, inside, length-map rows (passes k (get_or rows k 0))) in
      ap (λ s. has s j) (get_or-map (passes k (get_or rows k 0)) rows i 0 0 small) ∙ row i j (get_or rows i 0) (h.passed i k small) (h.passed i j small) (has (get_or rows i 0) k) refl ∙ (let e : suc k ≡ k + 1 = omega arith in ap (λ n. reaches_below (imports m) n i j) e));
})
  where
    row : (i j s : ℕ) → has s k ≡ reaches_below (imports m) k i k → has s j ≡ reaches_below (imports m) k i j → (v : Bool) → has s k ≡ v → has (cond (has s k) (union s (get_or rows k 0)) s) j ≡ reaches_below (imports m) (suc k) i j
    row i j s a b true e = rw (e, has-union, h.passed k j less, b, ← a, e) refl
    row i j s a b false e = rw (e, b, ← a, e) (sym (or-false (reaches_below (imports m) k i j)))

pub rows_same : (m : System) (reached rows : List ℕ) (n : ℕ) → AreReached m reached → length m.contexts ≤ n → n ≤ length m.contexts → rows ≡ map (ahead_row reached) (range_with_len 0 n) → rows ≡ map (ahead_row reached) (range_with_len 0 (length reached))
rows_same m reached rows n h a b is = let e : n ≡ length reached = omega (arith, h.one_each) in is ∙ ap (λ k. map (ahead_row reached) (range_with_len 0 k)) e

pub rows_end : (m : System) (k : ℕ) (rows : List ℕ) → length m.contexts ≤ k → k ≤ length m.contexts → ArePassed m k rows → AreReached m rows
rows_end m k rows a b h = let same : k ≡ length m.contexts = omega arith in record {
  one_each = h.one_each;
  reached = λ i j less. h.passed i j less ∙ ap (λ n. reaches_below (imports m) n i j) same;
}

-- the rows of what is ahead, by a test of what is reached
module _ (m : System) (reaches : ℕ → ℕ → Bool) (to_reach : (i j : ℕ) → reaches i j ≡ true → Reaches m i j) (from_reach : (i j : ℕ) → Reaches m i j → reaches i j ≡ true) where
  pub ahead_by_test : (n : ℕ) (rows : List ℕ) → n ≡ length m.contexts → length rows ≡ n → ((i : ℕ) → i < n → (j : ℕ) → has (get_or rows i 0) j ≡ (ltb j n && (reaches i j && not (reaches j i)))) → AreAhead m rows
  ahead_by_test n rows many long test = record {
    one_each = long ∙ many;
    to = λ i j less e. (
        let parts = and_parts (ltb j n) (reaches i j && not (reaches j i)) (sym (test i (omega (arith, long)) j) ∙ e) in
        let both = and_parts (reaches i j) (not (reaches j i)) parts.1 in
        let below : j < n = grind (arith, nat_tests, parts.0) in
        (omega (arith, long, below), to_reach i j both.0, λ back. true≢false (sym (from_reach j i back) ∙ not-true (reaches j i) both.1)));
    from = λ i j less less' a b. test i (omega (arith, long)) j ∙ and_from _ _ (let below : j < n = omega (arith, long) in grind (arith, nat_tests)) (and_from _ _ (from_reach i j a) (not_from_false (reaches j i) (false_from_ne_true (reaches j i) (λ e. b (to_reach j i e)))));
  }

pub rows_ahead : (m : System) → IsValid m → (reached rows : List ℕ) → AreReached m reached → rows ≡ map (ahead_row reached) (range_with_len 0 (length reached)) → AreAhead m rows
unfolding ahead_row
rows_ahead m valid reached rows h is = ahead_by_test m (reaches_below (imports m) (length m.contexts)) (is_reached m (length m.contexts)) (λ i j. reaches_is m (length m.contexts) i j (imports_below m valid)) (length reached) rows h.one_each
    (ap length is ∙ length-map (range_with_len 0 (length reached)) (ahead_row reached) ∙ length-range_with_len 0 (length reached)) test
  where
    test : (i : ℕ) → i < length reached → (j : ℕ) → has (get_or rows i 0) j ≡ (ltb j (length reached) && (reaches_below (imports m) (length m.contexts) i j && not (reaches_below (imports m) (length m.contexts) j i)))
    test i less j =
        ap (λ (xs : List ℕ). has (get_or xs i 0) j) is
        ∙ ap (λ s. has s j) (get_or-map-range_with_len (ahead_row reached) 0 (length reached) i i 0 less (omega arith))
        ∙ has-such_that (length reached) (λ j. has (get_or reached i 0) j && not (has (get_or reached j 0) i)) j
        ∙ at (ltb j (length reached)) refl
      where
        at : (v : Bool) → ltb j (length reached) ≡ v → (v && (has (get_or reached i 0) j && not (has (get_or reached j 0) i))) ≡ (v && (reaches_below (imports m) (length m.contexts) i j && not (reaches_below (imports m) (length m.contexts) j i)))
        at true e = let below : j < length reached = grind (arith, nat_tests) in rw (h.reached i j less, h.reached j i below) refl
        at false e = refl

pub ahead_strict : (m : System) (rows : List ℕ) → AreAhead m rows → AreStrict rows
ahead_strict m rows h = record {
  in_range = λ i j less e. (h.to i j less e).0;
  irreflexive = λ i less. false_from_ne_true (has (get_or rows i 0) i) (λ e. let t = h.to i i less e in t.2 t.1);
  transitive = λ i j k less less' a b. (let s = h.to i j less a in let t = h.to j k less' b in h.from i k less t.0 (Reaches-trans m i j k s.1 t.1) (λ back. t.2 (Reaches-trans m k i j back s.1)));
}

-- each system has such rows
reads_bound : List Read → ℕ
reads_bound [] = 0
reads_bound (r ∷ rs) = suc (r.context + reads_bound rs)

bridges_bound : List Bridge → ℕ
bridges_bound [] = 0
bridges_bound (b ∷ bs) = reads_bound (b.pos ++ b.neg) + bridges_bound bs

reads_below : (rs : List Read) (j : ℕ) → list_any (λ (r : Read). eqb r.context j) rs ≡ true → j < reads_bound rs
unfolding reads_bound
reads_below [] j e = absurd (true≢false (sym e))
reads_below (r ∷ rs) j e = elim (or_cases (eqb r.context j) (list_any (λ (r : Read). eqb r.context j) rs) e) [
  | inl here ↦ let same : r.context ≡ j = grind (arith, nat_tests) in omega arith
  | inr later ↦ let rest = reads_below rs j later in omega arith
]

bridges_below : (bs : List Bridge) (i j : ℕ) → list_any (λ (b : Bridge). eqb b.target i && list_any (λ (r : Read). eqb r.context j) (b.pos ++ b.neg)) bs ≡ true → j < bridges_bound bs
unfolding bridges_bound
bridges_below [] i j e = absurd (true≢false (sym e))
bridges_below (b ∷ bs) i j e = elim (or_cases (eqb b.target i && list_any (λ (r : Read). eqb r.context j) (b.pos ++ b.neg)) (list_any (λ (b : Bridge). eqb b.target i && list_any (λ (r : Read). eqb r.context j) (b.pos ++ b.neg)) bs) e) [
  | inl here ↦ let rest : j < reads_bound (b.pos ++ b.neg) = reads_below (b.pos ++ b.neg) j (and_parts (eqb b.target i) (list_any (λ (r : Read). eqb r.context j) (b.pos ++ b.neg)) here).1 in omega arith
  | inr later ↦ let rest = bridges_below bs i j later in omega arith
]

pub some_bound : (m : System) → (bound : ℕ) × AreBelow m bound
some_bound m = (bridges_bound m.bridges, λ i j e. bridges_below m.bridges i j e)

pub some_ahead : (m : System) → (rows : List ℕ) × AreAhead m rows
some_ahead m = let (bound, below) = some_bound m in
    let reaches : ℕ → ℕ → Bool = reaches_below (imports m) bound in
    let row : ℕ → ℕ = λ i. such_that (length m.contexts) (λ j. reaches i j && not (reaches j i)) in (
      map row (range_with_len 0 (length m.contexts)),
      ahead_by_test m reaches (is_reached m bound) (λ i j. reaches_is m bound i j below) (length m.contexts) (map row (range_with_len 0 (length m.contexts))) refl
          (length-map (range_with_len 0 (length m.contexts)) row ∙ length-range_with_len 0 (length m.contexts))
          (λ i less j. ap (λ s. has s j) (get_or-map-range_with_len row 0 (length m.contexts) i i 0 less (omega arith)) ∙ has-such_that (length m.contexts) (λ j. reaches i j && not (reaches j i)) j),
    )

-- ---- a context is imported where its variables meet the inputs
input_read : (m : System) (i v : ℕ) → has (inputs_of m i) v ≡ true → (q : Read) × IsVariable m v q × (k : ℕ) × (b : Bridge) × (slice_get m.bridges k ≡ Some b) × (b.target ≡ i) × IsAmong q (b.pos ++ b.neg)
unfolding inputs_of
input_read m i v e = at (slice_get (variables m) v) refl (and_parts (ltb v (length (variables m))) (is_read_into m i (slice_get (variables m) v)) (sym (has-such_that (length (variables m)) (λ w. is_read_into m i (slice_get (variables m) w)) v) ∙ e)).1
  where
    at : (o : Option Read) → slice_get (variables m) v ≡ o → is_read_into m i o ≡ true → (q : Read) × IsVariable m v q × (k : ℕ) × (b : Bridge) × (slice_get m.bridges k ≡ Some b) × (b.target ≡ i) × IsAmong q (b.pos ++ b.neg)
    at None is h = absurd (true≢false (sym h))
    at (Some q) is h =
        let (k, b, at_k, test) = any_get (λ (b : Bridge). eqb b.target i && list_any (λ (r : Read). same_read q r) (b.pos ++ b.neg)) m.bridges h in
        let parts = and_parts (eqb b.target i) (list_any (λ (r : Read). same_read q r) (b.pos ++ b.neg)) test in
        let (l, r, at_l, same) = any_get (λ (r : Read). same_read q r) (b.pos ++ b.neg) parts.1 in
        let e' : q ≡ r = same_read-is q r same in
        (q, is, k, b, at_k, (let target : b.target ≡ i = grind (arith, nat_tests, parts.0) in target), subst (λ (p : Read). IsAmong p (b.pos ++ b.neg)) (sym e') (among_get r (b.pos ++ b.neg) l at_l))

pub imports_by_sets : (m : System) (i j : ℕ) → j < length m.contexts → (meets : Bool) → (meets ≡ true) ↔ Meets (inputs_of m i) (variables_of m j) → meets ≡ imports m i j
imports_by_sets m i j less meets decides = both_ways meets (imports m i j) (λ e. to (decides.0 e)) (λ e. decides.1 (from e))
  where
    to : Meets (inputs_of m i) (variables_of m j) → imports m i j ≡ true
    to h =
        let (q, is, k, b, at_k, target, among) = input_read m i h.member h.in_first in
        let own : eqb q.context j ≡ true = sym (has-variables_of m j h.member q is) ∙ h.in_second in
        let (l, at_l) = get_among q (b.pos ++ b.neg) among in
        let reads : list_any (λ (r : Read). eqb r.context j) (b.pos ++ b.neg) ≡ true = get_any (λ (r : Read). eqb r.context j) (b.pos ++ b.neg) l q at_l own in
        get_any (λ (b : Bridge). eqb b.target i && list_any (λ (r : Read). eqb r.context j) (b.pos ++ b.neg)) m.bridges k b at_k (and_from _ _ (grind (arith, nat_tests)) reads)

    from : imports m i j ≡ true → Meets (inputs_of m i) (variables_of m j)
    from e =
        let (k, b, at_k, test) = any_get (λ (b : Bridge). eqb b.target i && list_any (λ (r : Read). eqb r.context j) (b.pos ++ b.neg)) m.bridges e in
        let parts = and_parts (eqb b.target i) (list_any (λ (r : Read). eqb r.context j) (b.pos ++ b.neg)) test in
        let (l, r, at_l, same) = any_get (λ (r : Read). eqb r.context j) (b.pos ++ b.neg) parts.1 in
        let of_j : r.context ≡ j = grind (arith, nat_tests) in
        let target : b.target ≡ i = grind (arith, nat_tests, parts.0) in
        let among = among_get r (b.pos ++ b.neg) l at_l in
        let (v, is) = read_is_variable m k b r at_k among (omega arith) in
        record { member = v; in_first = has-inputs_of m i k v b r r at_k target among is (same_read-itself r); in_second = has-variables_of m j v r is ∙ same }
