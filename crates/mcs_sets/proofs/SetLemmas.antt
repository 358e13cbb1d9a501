-- What holds of sets that are kept as numbers.
use Rattle.std.proofs.Common.{◌≡◌, ◌≢◌, ℕ, ◌+◌, ◌-◌, ◌/◌, ◌^◌, ◌<◌, ◌≤◌, Bool, true, false, cond, not, ◌&&◌, ◌||◌, eqb, ltb, zero, suc, refl, sym, ap, ◌∙◌, inl, inr, ◌⊎◌, add-one, div-one, arith, ◌↔◌, true≢false, IsTrue, bit_and, bit_or, bit_xor, count_ones, length, List, [], ◌∷◌, ◌++◌}
use Rattle.std.proofs.lemmas.Bool.{cases_lt}
use Rattle.std.proofs.lemmas.Bool.Decides.{nat_tests}
use Rattle.std.proofs.lemmas.Grind.{common_steps}
use Rattle.std.proofs.lemmas.Nat.Bits.{bit_at_or, bit_at_and, bit_at_xor, bit_at-lt, bit_at-pow_same, bit_at-pow_other, bit_at-zero, same_from_bits, bit_at_above, bit_at-trailing_zeros}
use mir.Val.{bits}
use Rattle.std.proofs.lemmas.List.{append-nil}
use Rattle.std.proofs.lemmas.List.Elements.{All-from_recursion, All-contains}
use Rattle.std.specs.List.{All, AllByRecursion, Contains}
use Rattle.std.proofs.lemmas.Nat.{or_lt, xor_lt, and_le_l, and_le_r, shr-shr}
use Rattle.std.proofs.Math.Pow.{shr_lt, pow-lt}
use Rattle.std.proofs.Math.Nat.{two-pow-succ}
use Rattle.std.specs.Int.Count.{ones, ones_step}
use Rattle.std.specs.Int.{bit_at, Width, trailing_zeros}
use Rattle.mcs_sets.specs.Sets.{has, single, union, common, minus, such_that, members_from, members, Within, Meets, IsLeast, size}
use Rattle.mcs_sets.specs.Orders.{StateBefore, LexLess, PairBefore}

-- a test of numbers below n: it fails at each, or there is a least one where it holds
pub first_below : (n : ℕ) (p : ℕ → Bool) → ((k : ℕ) → k < n → p k ≡ false) ⊎ ((k : ℕ) × (k < n) × (p k ≡ true) × ((j : ℕ) → j < k → p j ≡ false))
first_below zero p = inl (λ k h. absurd (omega arith))
first_below (suc n) p = elim (first_below n p) [
  | inr (k, lt, is, before) ↦ inr (k, omega arith, is, before)
  | inl none ↦ at (p n) refl none
]
  where
    at : (b : Bool) → p n ≡ b → ((k : ℕ) → k < n → p k ≡ false) → ((k : ℕ) → k < suc n → p k ≡ false) ⊎ ((k : ℕ) × (k < suc n) × (p k ≡ true) × ((j : ℕ) → j < k → p j ≡ false))
    at true e none = inr (n, omega arith, e, none)
    at false e none = inl (λ k h. last k h (eqb k n) refl)
      where
        last : (k : ℕ) → k < suc n → (b : Bool) → eqb k n ≡ b → p k ≡ false
        last k h true e' = let same : k ≡ n = grind (arith, nat_tests) in rw same e
        last k h false e' = let less : k < n = grind (arith, nat_tests) in none k less

bits_equal : (a b j k : ℕ) → (has a j ≡ has b k) → bit_at a j ≡ bit_at b k
unfolding has
bits_equal a b j k e = grind (arith, nat_tests, bit_at-lt a j, bit_at-lt b k)

count_zero : count_ones 0 ≡ 0
unfolding ones
count_zero = refl

pub has-empty : (k : ℕ) → has 0 k ≡ false
unfolding has
has-empty k = grind (arith, nat_tests, bit_at-zero k)

pub has-single : (k j : ℕ) → has (single k) j ≡ eqb j k
unfolding has single
has-single k j = grind (arith, nat_tests, bit_at-pow_same, bit_at-pow_other)

pub has-union : (a b k : ℕ) → has (union a b) k ≡ (has a k || has b k)
unfolding has union
has-union a b k = grind (arith, nat_tests, bit_at_or a b k, bit_at-lt a k, bit_at-lt b k)

pub has-common : (a b k : ℕ) → has (common a b) k ≡ (has a k && has b k)
unfolding has common
has-common a b k = grind (arith, nat_tests, bit_at_and a b k, bit_at-lt a k, bit_at-lt b k)

pub same_set : (a b : ℕ) → ((k : ℕ) → has a k ≡ has b k) → a ≡ b
same_set a b e = same_from_bits a b (λ k. bits_equal a b k k (e k))

pub has-minus : (a b k : ℕ) → has (minus a b) k ≡ (has a k && not (has b k))
unfolding has minus
has-minus a b k = grind (arith, nat_tests, bit_at_and a b k, bit_at_xor a (bit_and a b) k, bit_at-lt a k, bit_at-lt b k)

-- a set whose number is below 2 ^ n has its members below n
pub has_above : (s n k : ℕ) → s < 2 ^ n → n ≤ k → has s k ≡ false
unfolding has
has_above s n k small past = grind (arith, nat_tests, bit_at_above s n k small past)

pub members_below : (s n k : ℕ) → s < 2 ^ n → has s k ≡ true → k < n
members_below s n k small is = grind (arith, nat_tests, has_above s n k small)

-- a set of numbers below n is empty, or has a least member
pub least_below : (s n : ℕ) → s < 2 ^ n → (s ≡ 0) ⊎ ((k : ℕ) × (k < n) × (has s k ≡ true) × ((j : ℕ) → j < k → has s j ≡ false))
least_below s n small = elim (first_below n (has s)) [
  | inr found ↦ inr found
  | inl none ↦ inl (same_set s 0 (λ k. each k none (ltb k n) refl))
]
  where
    each : (k : ℕ) → ((k : ℕ) → k < n → has s k ≡ false) → (b : Bool) → ltb k n ≡ b → has s k ≡ has 0 k
    each k none true e = let less : k < n = grind (arith, nat_tests) in none k less ∙ sym (has-empty k)
    each k none false e = let past : n ≤ k = grind (arith, nat_tests) in has_above s n k small past ∙ sym (has-empty k)

pub has-such_that : (n : ℕ) (p : ℕ → Bool) (k : ℕ) → has (such_that n p) k ≡ (ltb k n && p k)
unfolding such_that
has-such_that zero p k = has-empty k ∙ grind (arith, nat_tests)
has-such_that (suc n) p k = at (has-such_that n p k) (p n) refl
  where
    alone : p n ≡ true → (b : Bool) → eqb k n ≡ b → (ltb k n && p k || eqb k n) ≡ (ltb k (suc n) && p k)
    alone e true e' = let same : k ≡ n = grind (arith, nat_tests) in grind (arith, nat_tests, ap p same)
    alone e false e' = grind (arith, nat_tests)

    other : p n ≡ false → (b : Bool) → eqb k n ≡ b → (ltb k n && p k) ≡ (ltb k (suc n) && p k)
    other e true e' = let same : k ≡ n = grind (arith, nat_tests) in grind (arith, nat_tests, ap p same)
    other e false e' = grind (arith, nat_tests)

    at : has (such_that n p) k ≡ (ltb k n && p k) → (b : Bool) → p n ≡ b → has (cond b (union (such_that n p) (single n)) (such_that n p)) k ≡ (ltb k (suc n) && p k)
    at rest true e = rw (has-union, rest, has-single) (alone e (eqb k n) refl)
    at rest false e = rw rest (other e (eqb k n) refl)

pub such_that-more : (n : ℕ) (p : ℕ → Bool) → such_that (n + 1) p ≡ cond (p n) (union (such_that n p) (single n)) (such_that n p)
unfolding such_that
such_that-more n p = rw add-one refl

pub such_that-none : (p : ℕ → Bool) → such_that 0 p ≡ 0
unfolding such_that
such_that-none p = refl

-- the steps of a loop that puts in what passes a test
pub ruleset such_that_steps = (such_that-more, such_that-none)

pub union-lt : (n a b : ℕ) → a < 2 ^ n → b < 2 ^ n → union a b < 2 ^ n
unfolding union
union-lt n a b = or_lt n a b

pub single-lt : (n k : ℕ) → k < n → single k < 2 ^ n
unfolding single
single-lt n k less = pow-lt less

pub such_that-lt : (n : ℕ) (p : ℕ → Bool) → such_that n p < 2 ^ n
unfolding such_that
such_that-lt zero p = omega arith
such_that-lt (suc n) p = at (p n) (such_that-lt n p)
  where
    more : such_that n p < 2 ^ n → such_that n p < 2 ^ suc n
    more h = grind (arith, common_steps, two-pow-succ n)

    at : (b : Bool) → such_that n p < 2 ^ n → cond b (union (such_that n p) (single n)) (such_that n p) < 2 ^ suc n
    at true h = union-lt (suc n) _ _ (more h) (single-lt (suc n) n (omega arith))
    at false h = more h

has_digit : (s i : ℕ) → cond (has s i) 1 0 ≡ bit_at s i
unfolding has
has_digit s i = grind (arith, nat_tests, bit_at-lt s i)

shr_more : (s i w : ℕ) → s / 2 ^ i < 2 ^ suc w → s / 2 ^ (i + 1) < 2 ^ w
shr_more s i w small = rw (← shr-shr s i 1) (shr_lt w 1 (rw add-one small))

digits : (s i : ℕ) → count_ones (s / 2 ^ i) ≡ bit_at s i + count_ones (s / 2 ^ (i + 1))
digits s i = rw (ones_step (s / 2 ^ i), ← shr-shr s i 1) refl

pub length-members_from : (w i s : ℕ) → s / 2 ^ i < 2 ^ w → length (members_from i w s) ≡ count_ones (s / 2 ^ i)
unfolding members_from
length-members_from zero i s small = let none : s / 2 ^ i ≡ 0 = omega arith in rw (none, count_zero) refl
length-members_from (suc w) i s small = at (length-members_from w (i + 1) s (shr_more s i w small)) (has s i) (has_digit s i)
  where
    at : length (members_from (i + 1) w s) ≡ count_ones (s / 2 ^ (i + 1)) → (b : Bool) → cond b 1 0 ≡ bit_at s i → length (cond b (i ∷ members_from (i + 1) w s) (members_from (i + 1) w s)) ≡ count_ones (s / 2 ^ i)
    at rest true e = omega (arith, rest, digits s i, e)
    at rest false e = omega (arith, rest, digits s i, e)

-- a & b == a
pub within_where_common : (a b : ℕ) → common a b ≡ a → Within a b
within_where_common a b e k is = let h : has a k ≡ (has a k && has b k) = ap (λ s. has s k) (sym e) ∙ has-common a b k in grind (arith, nat_tests)

pub common_where_within : (a b : ℕ) → Within a b → common a b ≡ a
common_where_within a b w = same_set _ _ (λ k. has-common a b k ∙ each k (has a k) refl)
  where
    each : (k : ℕ) (v : Bool) → has a k ≡ v → (has a k && has b k) ≡ has a k
    each k true e = rw (e, w k e) refl
    each k false e = rw e refl

-- a set within another one is no larger as a number
pub Within-le : (a b : ℕ) → Within a b → a ≤ b
unfolding common
Within-le a b within = let e = common_where_within a b within in omega (arith, and_le_r a b, e)

pub members_from-append : (s w v i : ℕ) → members_from i (w + v) s ≡ members_from i w s ++ members_from (i + w) v s
unfolding members_from
members_from-append s zero v i = let e : zero + v ≡ v = omega arith in let e' : i ≡ i + zero = omega arith in ap (λ n. members_from i n s) e ∙ ap (λ j. members_from j v s) e'
members_from-append s (suc w) v i = let e : suc w + v ≡ suc (w + v) = omega arith in ap (λ n. members_from i n s) e ∙ let e' : i + 1 + w ≡ i + suc w = omega arith in at (has s i) (members_from-append s w v (i + 1) ∙ ap (λ j. members_from (i + 1) w s ++ members_from j v s) e')
  where
    at : (b : Bool) → members_from (i + 1) (w + v) s ≡ members_from (i + 1) w s ++ members_from (i + suc w) v s → cond b (i ∷ members_from (i + 1) (w + v) s) (members_from (i + 1) (w + v) s) ≡ cond b (i ∷ members_from (i + 1) w s) (members_from (i + 1) w s) ++ members_from (i + suc w) v s
    at true rest = ap (λ xs. i ∷ xs) rest
    at false rest = rest

pub members_from-empty : (s n : ℕ) → s < 2 ^ n → (w i : ℕ) → n ≤ i → members_from i w s ≡ []
unfolding members_from
members_from-empty s n small zero i past = refl
members_from-empty s n small (suc w) i past = let no : has s i ≡ false = has_above s n i small past in rw no (members_from-empty s n small w (i + 1) (omega arith))

pub below_power : (n : ℕ) → n < 2 ^ n
below_power zero = omega arith
below_power (suc n) = omega (arith, below_power n, two-pow-succ n)

width_free : (s n w : ℕ) → s < 2 ^ n → n ≤ w → members_from 0 w s ≡ members_from 0 n s
width_free s n w small past =
    let e : w ≡ n + (w - n) = omega arith in ap (λ k. members_from 0 k s) e ∙ members_from-append s n (w - n) 0 ∙ ap (λ xs. members_from 0 n s ++ xs) (members_from-empty s n small (w - n) (0 + n) (omega arith)) ∙ append-nil _

-- the members are found below any width that holds the set
pub members-width : (s n : ℕ) → s < 2 ^ n → members s ≡ members_from 0 n s
unfolding members
members-width s n small = elim (cases_lt n s) [
  | inl less ↦ width_free s n s small (omega arith)
  | inr past ↦ sym (width_free s s n (below_power s) past)
]

pub length-members : (s : ℕ) → length (members s) ≡ count_ones s
unfolding members
length-members s = length-members_from s 0 s (rw div-one (below_power s)) ∙ ap count_ones (div-one s)

-- ---- how many members
unfoldable pub count_from : ℕ → ℕ → (ℕ → Bool) → ℕ
count_from i zero p = 0
count_from i (suc w) p = cond (p i) 1 0 + count_from (i + 1) w p

pub length-count : (w i s : ℕ) → length (members_from i w s) ≡ count_from i w (has s)
unfolding members_from count_from
length-count zero i s = refl
length-count (suc w) i s = at (has s i) (length-count w (i + 1) s)
  where
    at : (b : Bool) → length (members_from (i + 1) w s) ≡ count_from (i + 1) w (has s) → length (cond b (i ∷ members_from (i + 1) w s) (members_from (i + 1) w s)) ≡ cond b 1 0 + count_from (i + 1) w (has s)
    at true rest = omega arith
    at false rest = omega arith

pub size-count : (s n : ℕ) → s < 2 ^ n → size s ≡ count_from 0 n (has s)
size-count s n small = ap length (members-width s n small) ∙ length-count n 0 s

pub count_all : (p : ℕ → Bool) (w i : ℕ) → ((k : ℕ) → k < i + w → p k ≡ true) → count_from i w p ≡ w
unfolding count_from
count_all p zero i all = refl
count_all p (suc w) i all = rw (all i (omega arith)) (omega (arith, count_all p w (i + 1) (λ k less. all k (omega arith))))

pub count_le : (p q : ℕ → Bool) → ((k : ℕ) → p k ≡ true → q k ≡ true) → (w i : ℕ) → count_from i w p ≤ count_from i w q
unfolding count_from
count_le p q le zero i = omega arith
count_le p q le (suc w) i = at (p i) refl (q i) refl (count_le p q le w (i + 1))
  where
    at : (u : Bool) → p i ≡ u → (v : Bool) → q i ≡ v → count_from (i + 1) w p ≤ count_from (i + 1) w q → cond u 1 0 + count_from (i + 1) w p ≤ cond v 1 0 + count_from (i + 1) w q
    at true e true e' rest = omega arith
    at true e false e' rest = absurd (true≢false (sym (le i e) ∙ e'))
    at false e true e' rest = omega arith
    at false e false e' rest = omega arith

-- a set within another has at most as many members
pub size-le : (a b n : ℕ) → b < 2 ^ n → Within a b → size a ≤ size b
size-le a b n small within = omega (arith, size-count a n (omega (arith, Within-le a b within)), size-count b n small, count_le (has a) (has b) within n 0)

count_union : (p q r : ℕ → Bool) → ((k : ℕ) → r k ≡ (p k || q k)) → ((k : ℕ) → p k ≡ true → q k ≡ false) → (w i : ℕ) → count_from i w r ≡ count_from i w p + count_from i w q
unfolding count_from
count_union p q r is apart zero i = omega arith
count_union p q r is apart (suc w) i = at (p i) refl (q i) refl (r i) (is i) (count_union p q r is apart w (i + 1))
  where
    at : (u : Bool) → p i ≡ u → (v : Bool) → q i ≡ v → (t : Bool) → t ≡ (p i || q i) → count_from (i + 1) w r ≡ count_from (i + 1) w p + count_from (i + 1) w q → cond t 1 0 + count_from (i + 1) w r ≡ (cond u 1 0 + count_from (i + 1) w p) + (cond v 1 0 + count_from (i + 1) w q)
    at true e true e' t known rest = absurd (true≢false (sym e' ∙ apart i e))
    at true e false e' true known rest = omega (arith, rest)
    at true e false e' false known rest = absurd (true≢false (sym (known ∙ rw e refl)))
    at false e true e' true known rest = omega (arith, rest)
    at false e true e' false known rest = absurd (true≢false (sym (known ∙ rw (e, e') refl)))
    at false e false e' true known rest = absurd (true≢false (known ∙ rw (e, e') refl))
    at false e false e' false known rest = omega (arith, rest)

-- two sets with nothing in common
pub size-union : (a b n : ℕ) → a < 2 ^ n → b < 2 ^ n → ((k : ℕ) → has a k ≡ true → has b k ≡ false) → size (union a b) ≡ size a + size b
size-union a b n small_a small_b apart = omega (arith, size-count a n small_a, size-count b n small_b, size-count (union a b) n (union-lt n a b small_a small_b), count_union (has a) (has b) (has (union a b)) (has-union a b) apart n 0)

-- ---- what the code's tests say

has_one : (s k : ℕ) → bit_at s k ≡ 1 → has s k ≡ true
unfolding has
has_one s k e = grind (arith, nat_tests)

has_zero : (s k : ℕ) → bit_at s k ≡ 0 → has s k ≡ false
unfolding has
has_zero s k e = grind (arith, nat_tests)

-- the lowest bit that is set is the least member
pub least_at_trailing : (w : Width) (s : ℕ) → 0 < s → s < 2 ^ bits w → IsLeast s (trailing_zeros w s)
least_at_trailing w s some small =
    let at = bit_at-trailing_zeros w s some small in
    record { in_set = has_one s _ at.1; none_below = λ j less. has_zero s j (at.2 j less) }

pub not_empty : (s k : ℕ) → has s k ≡ true → s ≢ 0
not_empty s k is e = grind (arith, nat_tests, has-empty k)

-- a & b != 0
pub meets_where_common : (a b n : ℕ) → a < 2 ^ n → common a b ≢ 0 → Meets a b
meets_where_common a b n small some = elim (first_below n (has (common a b))) [
  | inr (k, less, is, before) ↦ record {
    member = k;
    in_first = let e = has-common a b k in grind (arith, nat_tests);
    in_second = let e = has-common a b k in grind (arith, nat_tests);
  }
  | inl none ↦ absurd (some (same_set _ 0 (λ k. each none k (has a k) refl)))
]
  where
    each : ((k : ℕ) → k < n → has (common a b) k ≡ false) → (k : ℕ) (v : Bool) → has a k ≡ v → has (common a b) k ≡ has 0 k
    each none k true e = none k (members_below a n k small e) ∙ sym (has-empty k)
    each none k false e = rw (has-common, e, has-empty) refl

pub common_where_meets : (a b : ℕ) → Meets a b → common a b ≢ 0
common_where_meets a b m = not_empty _ m.member (rw (has-common, m.in_first, m.in_second) refl)

pub has-differ : (a b k : ℕ) → has (bit_xor a b) k ≡ cond (has a k) (not (has b k)) (has b k)
unfolding has
has-differ a b k = grind (arith, nat_tests, bit_at_xor a b k, bit_at-lt a k, bit_at-lt b k)

differ_there : (x y : Bool) → cond x (not y) y ≡ true → x ≡ true → y ≡ false
differ_there true false e x = refl
differ_there true true e x = sym e
differ_there false y e x = absurd (true≢false (sym x))

no_difference : (x y : Bool) → cond x (not y) y ≡ true → x ≡ y → ⊥
no_difference true y e same = true≢false (same ∙ differ_there true y e refl)
no_difference false y e same = true≢false (sym e ∙ sym same)

alike_there : (x y : Bool) → cond x (not y) y ≡ false → x ≡ y
alike_there true true e = refl
alike_there true false e = absurd (true≢false e)
alike_there false true e = absurd (true≢false e)
alike_there false false e = refl

pub before_at_first_difference : (w : Width) (a b : ℕ) → 0 < bit_xor a b → bit_xor a b < 2 ^ bits w → IsTrue (has a (trailing_zeros w (bit_xor a b))) ↔ StateBefore a b
before_at_first_difference w a b some small =
    let least = least_at_trailing w _ some small in
    let at : ℕ = trailing_zeros w (bit_xor a b) in
    let differs : cond (has a at) (not (has b at)) (has b at) ≡ true = sym (has-differ a b at) ∙ least.in_set in
    let alike : (j : ℕ) → j < at → has a j ≡ has b j = λ j less. alike_there _ _ (sym (has-differ a b j) ∙ least.none_below j less) in (
      λ is. record { at = at; in_first = is; not_in_second = differ_there _ _ differs is; same_below = alike },
      λ before. elim (cases_lt at before.at) [
        | inl less ↦ absurd (no_difference _ _ differs (before.same_below at less))
        | inr past ↦ elim (cases_lt before.at at) [
          | inl less ↦ absurd (true≢false (sym before.in_first ∙ alike before.at less ∙ before.not_in_second))
          | inr past' ↦ let same : at ≡ before.at = omega arith in ap (has a) same ∙ before.in_first
        ]
      ],
    )

pub not_before_itself : (a : ℕ) → StateBefore a a → ⊥
not_before_itself a before = true≢false (sym before.in_first ∙ before.not_in_second)

-- ---- the order of pairs
pub LexLess-irreflexive : (xs : List ℕ) → LexLess xs xs → ⊥
LexLess-irreflexive [] h = h
LexLess-irreflexive (x ∷ xs) (inl less) = absurd (omega arith)
LexLess-irreflexive (x ∷ xs) (inr h) = LexLess-irreflexive xs h.1

pub LexLess-asymmetric : (xs ys : List ℕ) → LexLess xs ys → LexLess ys xs → ⊥
LexLess-asymmetric xs [] h k = h
LexLess-asymmetric [] (y ∷ ys) h k = k
LexLess-asymmetric (x ∷ xs) (y ∷ ys) (inl h) (inl k) = absurd (omega arith)
LexLess-asymmetric (x ∷ xs) (y ∷ ys) (inl h) (inr k) = absurd (omega arith)
LexLess-asymmetric (x ∷ xs) (y ∷ ys) (inr h) (inl k) = absurd (omega arith)
LexLess-asymmetric (x ∷ xs) (y ∷ ys) (inr h) (inr k) = LexLess-asymmetric xs ys h.1 k.1

-- a list of members from j on, where i is below j, comes after one that begins with i
first_less : (i j w b : ℕ) → i < j → (xs : List ℕ) → 0 < length (members_from j w b) → LexLess (i ∷ xs) (members_from j w b)
unfolding members_from
first_less i j zero b less xs some = absurd (omega arith)
first_less i j (suc w) b less xs some = at (first_less i (j + 1) w b (omega arith) xs) (has b j) some
  where
    at : (0 < length (members_from (j + 1) w b) → LexLess (i ∷ xs) (members_from (j + 1) w b)) → (v : Bool) → 0 < length (cond v (j ∷ members_from (j + 1) w b) (members_from (j + 1) w b)) → LexLess (i ∷ xs) (cond v (j ∷ members_from (j + 1) w b) (members_from (j + 1) w b))
    at rest true some = inl less
    at rest false some = rest some

lex_where_before : (w i a b : ℕ) (k : ℕ) → i ≤ k → k < i + w → IsTrue (has a k) → has b k ≡ false → ((j : ℕ) → j < k → has a j ≡ has b j) → length (members_from i w a) ≡ length (members_from i w b) → LexLess (members_from i w a) (members_from i w b)
unfolding members_from
lex_where_before zero i a b k from below is not same equal = absurd (omega arith)
lex_where_before (suc w) i a b k from below is not same equal = elim (cases_lt i k) [
  | inl less ↦ later (lex_where_before w (i + 1) a b k (omega arith) (omega arith) is not same) (has a i) (has b i) (same i less) equal
  | inr past ↦ let here : i ≡ k = omega arith in now (has a i) (has b i) (ap (has a) here ∙ is) (ap (has b) here ∙ not) equal
]
  where
    later : (length (members_from (i + 1) w a) ≡ length (members_from (i + 1) w b) → LexLess (members_from (i + 1) w a) (members_from (i + 1) w b)) → (u v : Bool) → u ≡ v → length (cond u (i ∷ members_from (i + 1) w a) (members_from (i + 1) w a)) ≡ length (cond v (i ∷ members_from (i + 1) w b) (members_from (i + 1) w b)) → LexLess (cond u (i ∷ members_from (i + 1) w a) (members_from (i + 1) w a)) (cond v (i ∷ members_from (i + 1) w b) (members_from (i + 1) w b))
    later rest true true e equal = inr (refl, rest (omega arith))
    later rest true false e equal = absurd (true≢false e)
    later rest false true e equal = absurd (true≢false (sym e))
    later rest false false e equal = rest equal

    now : (u v : Bool) → u ≡ true → v ≡ false → length (cond u (i ∷ members_from (i + 1) w a) (members_from (i + 1) w a)) ≡ length (cond v (i ∷ members_from (i + 1) w b) (members_from (i + 1) w b)) → LexLess (cond u (i ∷ members_from (i + 1) w a) (members_from (i + 1) w a)) (cond v (i ∷ members_from (i + 1) w b) (members_from (i + 1) w b))
    now true true e e' equal = absurd (true≢false e')
    now true false e e' equal = first_less i (i + 1) w b (omega arith) _ (omega (arith, equal))
    now false v e e' equal = absurd (true≢false (sym e))

-- two different sets of numbers below 2 ^ n: one comes before the other
pub before_total : (n a b : ℕ) → a < 2 ^ n → b < 2 ^ n → (a ≡ b) ⊎ (StateBefore a b ⊎ StateBefore b a)
before_total n a b small_a small_b = elim (least_below (bit_xor a b) n (xor_lt n a b small_a small_b)) [
  | inl none ↦ inl (same_set a b (λ k. alike_there _ _ (sym (has-differ a b k) ∙ rw none (has-empty k))))
  | inr (k, less, is, before) ↦ inr (at k (λ j h. alike_there _ _ (sym (has-differ a b j) ∙ before j h)) (has a k) refl (sym (has-differ a b k) ∙ is))
]
  where
    at : (k : ℕ) → ((j : ℕ) → j < k → has a j ≡ has b j) → (v : Bool) → has a k ≡ v → cond (has a k) (not (has b k)) (has b k) ≡ true → StateBefore a b ⊎ StateBefore b a
    at k same true e differs = inl (record { at = k; in_first = e; not_in_second = differ_there _ _ differs e; same_below = same })
    at k same false e differs = inr (record { at = k; in_first = rw e at differs; not_in_second = e; same_below = λ j h. sym (same j h) })

pub lex_where_state_before : (a b n : ℕ) → a < 2 ^ n → b < 2 ^ n → size a ≡ size b → StateBefore a b → LexLess (members a) (members b)
lex_where_state_before a b n small_a small_b equal before =
    rw (members-width a n small_a, members-width b n small_b)
    (lex_where_before n 0 a b before.at (omega arith) (let less = members_below a n before.at small_a before.in_first in omega arith) before.in_first before.not_in_second before.same_below
    (sym (ap length (members-width a n small_a)) ∙ equal ∙ ap length (members-width b n small_b)))

pub state_before_where_lex : (a b n : ℕ) → a < 2 ^ n → b < 2 ^ n → size a ≡ size b → LexLess (members a) (members b) → StateBefore a b
state_before_where_lex a b n small_a small_b equal lex = elim (before_total n a b small_a small_b) [
  | inl same ↦ absurd (LexLess-irreflexive (members b) (rw same at lex))
  | inr (inl before) ↦ before
  | inr (inr before) ↦ absurd (LexLess-asymmetric _ _ lex (lex_where_state_before b a n small_b small_a (sym equal) before))
]

pub pair_before_is : (a b : ℕ) → a < 2 ^ 128 → b < 2 ^ 128 → ((size a < size b) ⊎ ((size a ≡ size b) × StateBefore a b)) ↔ PairBefore a b
pair_before_is a b small_a small_b = (
  λ h. elim h [ inl less ↦ inl less | inr both ↦ inr (both.0, lex_where_state_before a b 128 small_a small_b both.0 both.1) ],
  λ h. elim h [ inl less ↦ inl less | inr both ↦ inr (both.0, state_before_where_lex a b 128 small_a small_b both.0 both.1) ],
)

pub StateBefore-asymmetric : (a b : ℕ) → StateBefore a b → StateBefore b a → ⊥
StateBefore-asymmetric a b h k = elim (cases_lt h.at k.at) [
  | inl less ↦ true≢false (sym h.in_first ∙ sym (k.same_below h.at less) ∙ h.not_in_second)
  | inr past ↦ elim (cases_lt k.at h.at) [
    | inl less ↦ true≢false (sym k.in_first ∙ sym (h.same_below k.at less) ∙ k.not_in_second)
    | inr past' ↦ let same : h.at ≡ k.at = omega arith in true≢false (sym h.in_first ∙ ap (has a) same ∙ k.not_in_second)
  ]
]

pub PairBefore-asymmetric : (a b : ℕ) → PairBefore a b → PairBefore b a → ⊥
PairBefore-asymmetric a b (inl h) (inl k) = absurd (omega arith)
PairBefore-asymmetric a b (inl h) (inr k) = absurd (omega (arith, k.0))
PairBefore-asymmetric a b (inr h) (inl k) = absurd (omega (arith, h.0))
PairBefore-asymmetric a b (inr h) (inr k) = LexLess-asymmetric _ _ h.1 k.1

pub meets_or_not : (a b n : ℕ) → a < 2 ^ n → Meets a b ⊎ ((k : ℕ) → has a k ≡ true → has b k ≡ false)
meets_or_not a b n small = elim (first_below n (λ k. has a k && has b k)) [
  | inr (k, less, is, before) ↦ inl (record { member = k; in_first = grind (arith, nat_tests); in_second = grind (arith, nat_tests) })
  | inl none ↦ inr (λ k is. let less : k < n = members_below a n k small is in let e = none k less in grind (arith, nat_tests))
]

-- ---- going over the members
pub members-empty : members 0 ≡ []
unfolding members members_from
members-empty = refl

members_from-same : (w i a b : ℕ) → ((k : ℕ) → i ≤ k → has a k ≡ has b k) → members_from i w a ≡ members_from i w b
unfolding members_from
members_from-same zero i a b same = refl
members_from-same (suc w) i a b same = at (has a i) (has b i) (same i (omega arith)) (members_from-same w (i + 1) a b (λ k past. same k (omega arith)))
  where
    at : (u v : Bool) → u ≡ v → members_from (i + 1) w a ≡ members_from (i + 1) w b → cond u (i ∷ members_from (i + 1) w a) (members_from (i + 1) w a) ≡ cond v (i ∷ members_from (i + 1) w b) (members_from (i + 1) w b)
    at true true e rest = ap (λ ks. i ∷ ks) rest
    at true false e rest = absurd (true≢false e)
    at false true e rest = absurd (true≢false (sym e))
    at false false e rest = rest

-- k is the first member of a, and b has the others
members_from-first : (w i k a b : ℕ) → i ≤ k → k < i + w → has a k ≡ true → ((j : ℕ) → j < k → has a j ≡ false) → has b k ≡ false → ((j : ℕ) → j ≢ k → has a j ≡ has b j) → members_from i w a ≡ k ∷ members_from i w b
unfolding members_from
members_from-first zero i k a b from below is none not same = absurd (omega arith)
members_from-first (suc w) i k a b from below is none not same = elim (cases_lt i k) [
  | inl less ↦ later (has a i) (has b i) (none i less) (sym (same i (λ e. omega arith)) ∙ none i less) (members_from-first w (i + 1) k a b (omega arith) (omega arith) is none not same)
  | inr past ↦ let here : i ≡ k = omega arith in now here (has a i) (has b i) (ap (has a) here ∙ is) (ap (has b) here ∙ not) (members_from-same w (i + 1) a b (λ j after. same j (λ e. omega arith)))
]
  where
    later : (u v : Bool) → u ≡ false → v ≡ false → members_from (i + 1) w a ≡ k ∷ members_from (i + 1) w b → cond u (i ∷ members_from (i + 1) w a) (members_from (i + 1) w a) ≡ k ∷ cond v (i ∷ members_from (i + 1) w b) (members_from (i + 1) w b)
    later false false e e' rest = rest
    later true v e e' rest = absurd (true≢false e)
    later false true e e' rest = absurd (true≢false e')

    now : i ≡ k → (u v : Bool) → u ≡ true → v ≡ false → members_from (i + 1) w a ≡ members_from (i + 1) w b → cond u (i ∷ members_from (i + 1) w a) (members_from (i + 1) w a) ≡ k ∷ cond v (i ∷ members_from (i + 1) w b) (members_from (i + 1) w b)
    now here true false e e' rest = ap (λ (j : ℕ). j ∷ members_from (i + 1) w a) here ∙ ap (λ ks. k ∷ ks) rest
    now here false v e e' rest = absurd (true≢false (sym e))
    now here true true e e' rest = absurd (true≢false e')

pub minus-le : (a b : ℕ) → minus a b ≤ a
minus-le a b = Within-le (minus a b) a (λ k is. let e = has-minus a b k in grind (arith, nat_tests))

-- the least member, and then the others
pub members-least : (s k : ℕ) → IsLeast s k → members s ≡ k ∷ members (minus s (single k))
members-least s k least =
    let small : s < 2 ^ s = below_power s in
    let others : minus s (single k) < 2 ^ s = let le = minus-le s (single k) in omega arith in
    rw (members-width s s small, members-width (minus s (single k)) s others)
    (members_from-first s 0 k s (minus s (single k)) (omega arith) (omega (arith, members_below s s k small least.in_set)) least.in_set least.none_below gone (λ j differ. other j (has s j) (eqb j k) refl differ))
  where
    gone : has (minus s (single k)) k ≡ false
    gone = rw (has-minus, has-single) (here (has s k) (eqb k k) (grind (arith, nat_tests)))
      where
        here : (u v : Bool) → v ≡ true → (u && not v) ≡ false
        here true true e = refl
        here false true e = refl
        here u false e = absurd (true≢false (sym e))

    other : (j : ℕ) (u v : Bool) → eqb j k ≡ v → j ≢ k → has s j ≡ has (minus s (single k)) j
    other j u true e differ = absurd (differ (grind (arith, nat_tests)))
    other j u false e differ = let e' = has-minus s (single k) j in let e'' = has-single k j in grind (arith, nat_tests)

-- what holds of each member from i on
pub members_from-each : (P : ℕ → Type 0) (w i s : ℕ) → ((k : ℕ) → i ≤ k → has s k ≡ true → P k) → AllByRecursion P (members_from i w s)
unfolding members_from
members_from-each P zero i s each = tt
members_from-each P (suc w) i s each = at (has s i) refl (members_from-each P w (i + 1) s (λ k past. each k (omega arith)))
  where
    at : (b : Bool) → has s i ≡ b → AllByRecursion P (members_from (i + 1) w s) → AllByRecursion P (cond b (i ∷ members_from (i + 1) w s) (members_from (i + 1) w s))
    at true is rest = (each i (omega arith) is, rest)
    at false is rest = rest

-- what holds of each member
pub members-each : (P : ℕ → Type 0) (s : ℕ) → ((k : ℕ) → has s k ≡ true → P k) → All P (members s)
unfolding members
members-each P s each = All-from_recursion P (members s) (members_from-each P s 0 s (λ k from. each k))

pub members-below : (s n : ℕ) → s < 2 ^ n → All (λ k. k < n) (members s)
members-below s n small = members-each (λ k. k < n) s (λ k. members_below s n k small)

length-members_from-le : (w i s : ℕ) → length (members_from i w s) ≤ w
unfolding members_from
length-members_from-le zero i s = omega arith
length-members_from-le (suc w) i s = at (has s i) (length-members_from-le w (i + 1) s)
  where
    at : (b : Bool) → length (members_from (i + 1) w s) ≤ w → length (cond b (i ∷ members_from (i + 1) w s) (members_from (i + 1) w s)) ≤ suc w
    at true rest = omega arith
    at false rest = omega arith

-- a set of numbers below n has at most n of them
pub size-below : (s n : ℕ) → s < 2 ^ n → size s ≤ n
size-below s n small = rw (members-width s n small) (length-members_from-le n 0 s)

members_from-contains : (w i s k : ℕ) → i ≤ k → k < i + w → has s k ≡ true → Contains (members_from i w s) k
unfolding members_from
members_from-contains zero i s k from below is = absurd (omega arith)
members_from-contains (suc w) i s k from below is = elim (cases_lt i k) [
  | inl less ↦ later (has s i) (members_from-contains w (i + 1) s k (omega arith) (omega arith) is)
  | inr past ↦ let here : i ≡ k = omega arith in now here (has s i) (ap (has s) here ∙ is)
]
  where
    later : (b : Bool) → Contains (members_from (i + 1) w s) k → Contains (cond b (i ∷ members_from (i + 1) w s) (members_from (i + 1) w s)) k
    later true (at, less, there) = (suc at, omega arith, there)
    later false rest = rest

    now : i ≡ k → (b : Bool) → b ≡ true → Contains (cond b (i ∷ members_from (i + 1) w s) (members_from (i + 1) w s)) k
    now here true e = (0, omega arith, here)
    now here false e = absurd (true≢false (sym e))

-- the list of the members has what the set has
pub members-contains : (s k : ℕ) → Contains (members s) k ↔ IsTrue (has s k)
unfolding members
members-contains s k = (
  λ there. All-contains (λ j. IsTrue (has s j)) (members s) k (members-each (λ j. IsTrue (has s j)) s (λ j is. is)) there,
  λ is. members_from-contains s 0 s k (omega arith) (omega (arith, members_below s s k (below_power s) is)) is,
)

pub Within-members : (a b : ℕ) → Within a b ↔ All (λ k. IsTrue (has b k)) (members a)
Within-members a b = (
  λ within. members-each (λ k. IsTrue (has b k)) a within,
  λ all k is. All-contains (λ j. IsTrue (has b j)) (members a) k all ((members-contains a k).1 is),
)

-- ---- the words of the code stay within their width
pub or_of_64 : (a b : ℕ) → a < 2 ^ 64 → b < 2 ^ 64 → bit_or a b < 2 ^ 64
or_of_64 a b = or_lt 64 a b

pub xor_of_64 : (a b : ℕ) → a < 2 ^ 64 → b < 2 ^ 64 → bit_xor a b < 2 ^ 64
xor_of_64 a b = xor_lt 64 a b

pub or_of_128 : (a b : ℕ) → a < 2 ^ 128 → b < 2 ^ 128 → bit_or a b < 2 ^ 128
or_of_128 a b = or_lt 128 a b

pub xor_of_128 : (a b : ℕ) → a < 2 ^ 128 → b < 2 ^ 128 → bit_xor a b < 2 ^ 128
xor_of_128 a b = xor_lt 128 a b

pub and_fits : (w a b : ℕ) → a < w → bit_and a b < w
and_fits w a b small = omega (arith, and_le_l a b)

pub ruleset fits = (or_of_64, xor_of_64, or_of_128, xor_of_128, and_fits)

pub union_of_64 : (a b : ℕ) → a < 2 ^ 64 → b < 2 ^ 64 → union a b < 2 ^ 64
union_of_64 a b = union-lt 64 a b

pub single_of_64 : (k : ℕ) → k < 64 → single k < 2 ^ 64
single_of_64 k = single-lt 64 k

pub minus_of_64 : (a b : ℕ) → a < 2 ^ 64 → minus a b < 2 ^ 64
minus_of_64 a b small = let w = Within-le (minus a b) a (λ k is. let e = has-minus a b k in grind (arith, nat_tests)) in omega arith

pub common_of_64 : (a b : ℕ) → a < 2 ^ 64 → common a b < 2 ^ 64
common_of_64 a b small = let w = Within-le (common a b) a (λ k is. let e = has-common a b k in grind (arith, nat_tests)) in omega arith

pub ruleset sets_fit = (union_of_64, single_of_64, minus_of_64, common_of_64)

pub ruleset sets = (has-empty, has-single, has-union, has-common, has-minus, has-such_that)
