-- Pairs of sets of rules and their marks.
use Rattle.std.proofs.Common.{◌≡◌, ℕ, ◌+◌, ◌*◌, ◌/◌, ◌%◌, ◌^◌, ◌<◌, Bool, true, false, ◌&&◌, cond, ltb, zero, suc, length, Some, refl, sym, ap, ◌∙◌, arith, slice_get, not, ◌⊎◌, inl, inr, true≢false}
use Rattle.std.proofs.lemmas.Bool.{and_parts, and_from}
use Rattle.std.proofs.lemmas.Bool.Decides.{nat_tests}
use Rattle.mcs_sets.specs.Sets.{has, size, single, union, minus, such_that, Within, Meets}
use Rattle.mcs_sets.proofs.SetLemmas.{count_from, size-count, same_set, has-such_that, has-minus, such_that-lt, such_that-none, Within-le, count_all}
use Rattle.mcs_base.specs.Pairs.{removed_of, forced_of}
use Rattle.mcs_base.proofs.PairLemmas.{has-removed_of, has-forced_of}
use Rattle.mcs_system.specs.Plain.{Bridge, System}
use Rattle.mcs_system.specs.Systems.{all_rules, applicable, is_applicable}
use Rattle.mcs_system.specs.Repairs.{all_marks, mark_of, marks_of, is_kept, is_closed, kept_rules, closed_rules, is_allowed, allowed_marks, IsChange}
pub use Rattle.mcs_base.proofs.Ranges.{by_parity}
use Rattle.mcs_sets.proofs.Lattice.{in_minus, such_that_next}

pub has-all_rules : (m : System) (r : ℕ) → has (all_rules m) r ≡ ltb r (length m.bridges)
has-all_rules m r = has-such_that _ _ r ∙ grind (arith, nat_tests)

pub has-all_marks : (m : System) (k : ℕ) → has (all_marks m) k ≡ ltb k (2 * length m.bridges)
unfolding all_marks
has-all_marks m k = has-such_that _ _ k ∙ grind (arith, nat_tests)

pub marks_small : (m : System) (p : ℕ) → Within p (all_marks m) → p < 2 ^ (2 * length m.bridges)
unfolding all_marks
marks_small m p within = omega (arith, Within-le p _ within, such_that-lt (2 * length m.bridges) (λ k. true))

pub has-marks_of : (m : System) (a b k : ℕ) → has (marks_of m a b) k ≡ (ltb k (2 * length m.bridges) && mark_of a b k)
unfolding marks_of
has-marks_of m a b k = has-such_that _ _ k

pub mark-even : (a b r : ℕ) → mark_of a b (2 * r) ≡ has a r
mark-even a b r = let e : 2 * r % 2 ≡ 0 = omega arith in let h : 2 * r / 2 ≡ r = omega arith in rw (e, h) refl

pub mark-odd : (a b r : ℕ) → mark_of a b (2 * r + 1) ≡ has b r
mark-odd a b r = let e : (2 * r + 1) % 2 ≡ 1 = omega arith in let h : (2 * r + 1) / 2 ≡ r = omega arith in rw (e, h) refl

pub removed-marks_of : (m : System) (a b : ℕ) → Within a (all_rules m) → removed_of (marks_of m a b) ≡ a
removed-marks_of m a b within = same_set _ _ (λ r. has-removed_of _ r ∙ rw (has-marks_of, mark-even) (each r (has a r) refl))
  where
    each : (r : ℕ) (v : Bool) → has a r ≡ v → (ltb (2 * r) (2 * length m.bridges) && has a r) ≡ has a r
    each r true e = let known = sym (has-all_rules m r) ∙ within r e in grind (arith, nat_tests)
    each r false e = grind (arith, nat_tests)

pub forced-marks_of : (m : System) (a b : ℕ) → Within b (all_rules m) → forced_of (marks_of m a b) ≡ b
forced-marks_of m a b within = same_set _ _ (λ r. has-forced_of _ r ∙ rw (has-marks_of, mark-odd) (each r (has b r) refl))
  where
    each : (r : ℕ) (v : Bool) → has b r ≡ v → (ltb (2 * r + 1) (2 * length m.bridges) && has b r) ≡ has b r
    each r true e = let known = sym (has-all_rules m r) ∙ within r e in grind (arith, nat_tests)
    each r false e = grind (arith, nat_tests)

-- the marks of a pair are of rules
pub marks_known : (m : System) (a b : ℕ) → Within (marks_of m a b) (all_marks m)
marks_known m a b k is = let e1 = has-marks_of m a b k in let e2 = has-all_marks m k in grind (arith, nat_tests)

-- and so are the two sets of a pair of marks of rules
pub removed_known : (m : System) (pair : ℕ) → Within pair (all_marks m) → Within (removed_of pair) (all_rules m)
removed_known m pair within r is = let e1 = has-removed_of pair r in let w = within (2 * r) in let e2 = has-all_marks m (2 * r) in let e3 = has-all_rules m r in grind (arith, nat_tests)

pub forced_known : (m : System) (pair : ℕ) → Within pair (all_marks m) → Within (forced_of pair) (all_rules m)
forced_known m pair within r is = let e1 = has-forced_of pair r in let w = within (2 * r + 1) in let e2 = has-all_marks m (2 * r + 1) in let e3 = has-all_rules m r in grind (arith, nat_tests)

pub applicable_within : (m : System) (σ : ℕ) → Within (applicable m σ) (all_rules m)
unfolding applicable
applicable_within m σ k is = let e1 = has-such_that (length m.bridges) (λ j. is_applicable m σ (slice_get m.bridges j)) k in let e2 = has-all_rules m k in grind (arith, nat_tests)

-- ---- what a repair may change
pub has-kept_rules : (m : System) (r : ℕ) → has (kept_rules m) r ≡ (ltb r (length m.bridges) && is_kept (slice_get m.bridges r))
unfolding kept_rules
has-kept_rules m r = has-such_that _ _ r

pub has-closed_rules : (m : System) (r : ℕ) → has (closed_rules m) r ≡ (ltb r (length m.bridges) && is_closed (slice_get m.bridges r))
unfolding closed_rules
has-closed_rules m r = has-such_that _ _ r

is_allowed-even : (m : System) (r : ℕ) → is_allowed m (2 * r) ≡ not (is_kept (slice_get m.bridges r))
is_allowed-even m r = let e : 2 * r % 2 ≡ 0 = omega arith in let h : 2 * r / 2 ≡ r = omega arith in rw (e, h) refl

is_allowed-odd : (m : System) (r : ℕ) → is_allowed m (2 * r + 1) ≡ not (is_closed (slice_get m.bridges r))
is_allowed-odd m r = let e : (2 * r + 1) % 2 ≡ 1 = omega arith in let h : (2 * r + 1) / 2 ≡ r = omega arith in rw (e, h) refl

-- a rule may be removed where it is not kept
pub allowed-even : (m : System) (r : ℕ) → has (allowed_marks m) (2 * r) ≡ (has (all_rules m) r && not (has (kept_rules m) r))
unfolding allowed_marks
allowed-even m r =
    let e1 = has-such_that (2 * length m.bridges) (is_allowed m) (2 * r) in let e2 = is_allowed-even m r in let e3 = has-all_rules m r in let e4 = has-kept_rules m r in
    grind (arith, nat_tests)

-- and forced where it is not closed
pub allowed-odd : (m : System) (r : ℕ) → has (allowed_marks m) (2 * r + 1) ≡ (has (all_rules m) r && not (has (closed_rules m) r))
unfolding allowed_marks
allowed-odd m r =
    let e1 = has-such_that (2 * length m.bridges) (is_allowed m) (2 * r + 1) in let e2 = is_allowed-odd m r in let e3 = has-all_rules m r in let e4 = has-closed_rules m r in
    grind (arith, nat_tests)

-- one more rule, by what it allows
module _ (m : System) (r marks middle after : ℕ) (b : Bridge) (is : slice_get m.bridges r ≡ Some b) where
  pub allowed_next : marks ≡ such_that (2 * r) (is_allowed m) → middle ≡ cond b.keep marks (union marks (single (2 * r))) → after ≡ cond b.closed middle (union middle (single (2 * r + 1)))
      → after ≡ such_that (2 * (r + 1)) (is_allowed m)
  allowed_next before first second =
      let e : 2 * r + 1 + 1 ≡ 2 * (r + 1) = omega arith in
      let removed : is_allowed m (2 * r) ≡ not b.keep = is_allowed-even m r ∙ ap (λ o. not (is_kept o)) is in
      let forced : is_allowed m (2 * r + 1) ≡ not b.closed = is_allowed-odd m r ∙ ap (λ o. not (is_closed o)) is in
      such_that_next (is_allowed m) (2 * r + 1) middle after _ forced
      (such_that_next (is_allowed m) (2 * r) marks middle _ removed before (first ∙ swapped b.keep marks _))
      (second ∙ swapped b.closed middle _)
      ∙ ap (λ n. such_that n (is_allowed m)) e
    where
      swapped : (v : Bool) (x y : ℕ) → cond v x y ≡ cond (not v) y x
      swapped true x y = refl
      swapped false x y = refl

pub allowed_none : (m : System) → 0 ≡ such_that (2 * 0) (is_allowed m)
allowed_none m = sym (such_that-none (is_allowed m))

pub allowed_all : (m : System) (n : ℕ) → n ≡ length m.bridges → such_that (2 * n) (is_allowed m) ≡ allowed_marks m
unfolding allowed_marks
allowed_all m n e = ap (λ k. such_that (2 * k) (is_allowed m)) e

-- the sets of a pair that is allowed are barred by no rule
pub removed_allowed : (m : System) (pair : ℕ) → Within pair (allowed_marks m) → ¬ Meets (removed_of pair) (kept_rules m)
removed_allowed m pair within meets =
    let r = meets.member in
    let e1 = has-removed_of pair r in let w = within (2 * r) in let e2 = allowed-even m r in let a = meets.in_first in let b = meets.in_second in
    true≢false (grind (arith, nat_tests))

pub forced_allowed : (m : System) (pair : ℕ) → Within pair (allowed_marks m) → ¬ Meets (forced_of pair) (closed_rules m)
forced_allowed m pair within meets =
    let r = meets.member in
    let e1 = has-forced_of pair r in let w = within (2 * r + 1) in let e2 = allowed-odd m r in let a = meets.in_first in let b = meets.in_second in
    true≢false (grind (arith, nat_tests))

pub allowed_known : (m : System) (pair : ℕ) → Within pair (allowed_marks m) → Within pair (all_marks m)
unfolding allowed_marks
allowed_known m pair within k is = let allowed = within k is in let e1 = has-such_that (2 * length m.bridges) (is_allowed m) k in let e2 = has-all_marks m k in grind (arith, nat_tests)

pub kept_known : (m : System) → Within (kept_rules m) (all_rules m)
kept_known m r is = let e1 = has-kept_rules m r in let e2 = has-all_rules m r in grind (arith, nat_tests)

-- without the rules of the first set, and with those of the second, each kept rule is there and no closed one is forced
pub allowed_change : (m : System) (pair : ℕ) → Within pair (allowed_marks m) → IsChange m (minus (all_rules m) (removed_of pair)) (forced_of pair)
allowed_change m pair within = record {
  of_rules = λ r is. (in_minus (all_rules m) (removed_of pair) r is).0;
  forced_of_rules = forced_known m pair (allowed_known m pair within);
  kept = λ r is. (let free = removed_allowed m pair within in has-minus (all_rules m) (removed_of pair) r ∙ and_from _ _ (kept_known m r is) (absent free r is (has (removed_of pair) r) refl));
  none_closed = forced_allowed m pair within;
}
  where
    absent : ¬ Meets (removed_of pair) (kept_rules m) → (r : ℕ) → has (kept_rules m) r ≡ true → (v : Bool) → has (removed_of pair) r ≡ v → not v ≡ true
    absent free r is true e = absurd (free (record { member = r; in_first = e; in_second = is }))
    absent free r is false e = refl

-- and the marks of sets of rules that no rule bars are allowed
pub marks_allowed : (m : System) (a b : ℕ) → ¬ Meets a (kept_rules m) → ¬ Meets b (closed_rules m) → Within (marks_of m a b) (allowed_marks m)
marks_allowed m a b free unbarred k is = at (by_parity k)
  where
    below : (ltb k (2 * length m.bridges) ≡ true) × (mark_of a b k ≡ true)
    below = and_parts (ltb k (2 * length m.bridges)) (mark_of a b k) (sym (has-marks_of m a b k) ∙ is)

    outside : (s t r : ℕ) → ¬ Meets s t → has s r ≡ true → (v : Bool) → has t r ≡ v → not v ≡ true
    outside s t r never inside true e = absurd (never (record { member = r; in_first = inside; in_second = e }))
    outside s t r never inside false e = refl

    at : (r : ℕ) × ((k ≡ 2 * r) ⊎ (k ≡ 2 * r + 1)) → has (allowed_marks m) k ≡ true
    at (r, inl e) =
        let member : has a r ≡ true = sym (mark-even a b r) ∙ sym (ap (mark_of a b) e) ∙ below.1 in
        let known : has (all_rules m) r ≡ true = has-all_rules m r ∙ (let low = below.0 in grind (arith, nat_tests)) in
        ap (has (allowed_marks m)) e ∙ allowed-even m r ∙ and_from _ _ known (outside a (kept_rules m) r free member _ refl)
    at (r, inr e) =
        let member : has b r ≡ true = sym (mark-odd a b r) ∙ sym (ap (mark_of a b) e) ∙ below.1 in
        let known : has (all_rules m) r ≡ true = has-all_rules m r ∙ (let low = below.0 in grind (arith, nat_tests)) in
        ap (has (allowed_marks m)) e ∙ allowed-odd m r ∙ and_from _ _ known (outside b (closed_rules m) r unbarred member _ refl)

-- ---- how many marks a pair has
count-marks : (a b : ℕ) (p : ℕ → Bool) → (w i : ℕ) → ((k : ℕ) → k < 2 * (i + w) → p k ≡ mark_of a b k) → count_from (2 * i) (2 * w) p ≡ count_from i w (has a) + count_from i w (has b)
unfolding count_from
count-marks a b p zero i is = refl
count-marks a b p (suc w) i is =
    let e : 2 * suc w ≡ suc (suc (2 * w)) = omega arith in
    let e' : 2 * i + 1 + 1 ≡ 2 * (i + 1) = omega arith in
    ap (λ n. count_from (2 * i) n p) e
    ∙ ap (λ j. cond (p (2 * i)) 1 0 + (cond (p (2 * i + 1)) 1 0 + count_from j (2 * w) p)) e'
    ∙ step (p (2 * i)) (p (2 * i + 1)) (is (2 * i) (omega arith) ∙ mark-even a b i) (is (2 * i + 1) (omega arith) ∙ mark-odd a b i) (count-marks a b p w (i + 1) (λ k less. is k (omega arith)))
  where
    step : (u v : Bool) → u ≡ has a i → v ≡ has b i → count_from (2 * (i + 1)) (2 * w) p ≡ count_from (i + 1) w (has a) + count_from (i + 1) w (has b)
        → cond u 1 0 + (cond v 1 0 + count_from (2 * (i + 1)) (2 * w) p) ≡ (cond (has a i) 1 0 + count_from (i + 1) w (has a)) + (cond (has b i) 1 0 + count_from (i + 1) w (has b))
    step u v e e' rest = rw (← e, ← e') (omega (arith, rest))

pub size-marks_of : (m : System) (a b : ℕ) → Within a (all_rules m) → Within b (all_rules m) → size (marks_of m a b) ≡ size a + size b
unfolding marks_of
size-marks_of m a b within_a within_b = omega (
  arith,
  size-count (marks_of m a b) (2 * length m.bridges) (such_that-lt (2 * length m.bridges) (mark_of a b)),
  count-marks a b (has (marks_of m a b)) (length m.bridges) 0 (λ k less. has-marks_of m a b k ∙ (let e : ltb k (2 * length m.bridges) ≡ true = grind (arith, nat_tests) in rw e refl)),
  size-count a (length m.bridges) (omega (arith, Within-le a _ within_a, rules_small)),
  size-count b (length m.bridges) (omega (arith, Within-le b _ within_b, rules_small)),
)
  where
    rules_small : all_rules m < 2 ^ length m.bridges
    rules_small = such_that-lt (length m.bridges) (λ k. true)

pub size-all_rules : (m : System) → size (all_rules m) ≡ length m.bridges
size-all_rules m = size-count (all_rules m) (length m.bridges) (such_that-lt (length m.bridges) (λ k. true)) ∙ count_all (has (all_rules m)) (length m.bridges) 0 (λ k less. has-all_rules m k ∙ grind (arith, nat_tests))
