-- The lattice of finite sets: what is in unions, common parts and differences, what lies within what, and how many members there are.
use Rattle.std.proofs.Common.{◌≡◌, ℕ, ◌+◌, ◌^◌, ◌<◌, ◌≤◌, Bool, true, false, cond, not, ◌&&◌, eqb, sym, ap, ◌∙◌, inl, inr, ◌⊎◌, ◌↔◌, arith, bit_xor, length, ◌∷◌, ltb, refl, true≢false, subst, nat_lt, nat_eq, ◌-◌}
use Rattle.std.proofs.lemmas.Bool.{cases_Bool, false_from_ne_true, cases_eq}
use Rattle.std.proofs.lemmas.Bool.Decides.{nat_tests}
use Rattle.std.proofs.lemmas.Nat.Bits.{bit_at_ones, bit_at_ones_above}
use Rattle.mcs_sets.specs.Sets.{has, single, union, common, minus, such_that, members, Within, Meets, size}
use Rattle.mcs_sets.specs.Orders.{PairBefore}
use Rattle.mcs_sets.proofs.SetLemmas.{same_set, has-empty, has-single, has-union, has-common, has-minus, has-differ, members-least, members-empty, below_power, single-lt, union-lt, such_that-lt, minus-le, Within-le, size-le, size-union, within_where_common, common_where_within, state_before_where_lex, size-count, count_all, has-such_that, such_that-more, meets_or_not}

-- ---- equations
pub union-none : (a : ℕ) → union a 0 ≡ a
union-none a = same_set _ _ (λ k. grind (arith, has-union, has-empty))

pub none-union : (a : ℕ) → union 0 a ≡ a
none-union a = same_set _ _ (λ k. grind (arith, has-union, has-empty))

pub union_assoc : (a b c : ℕ) → union (union a b) c ≡ union a (union b c)
union_assoc a b c = same_set _ _ (λ k. grind (arith, has-union))

pub common-union : (a b c : ℕ) → common (union a b) c ≡ union (common a c) (common b c)
common-union a b c = same_set _ _ (λ k. grind (arith, has-union, has-common))

pub common-union_within : (a b c : ℕ) → Within b c → common (union a b) c ≡ union (common a c) b
common-union_within a b c within = common-union a b c ∙ ap (union (common a c)) (common_where_within b c within)

pub common-common : (a b : ℕ) → common (common a b) b ≡ common a b
common-common a b = same_set _ _ (λ k. grind (arith, has-common))

pub minus-none : (a : ℕ) → minus a 0 ≡ a
minus-none a = same_set _ _ (λ k. grind (arith, has-minus, has-empty))

pub minus_itself : (a : ℕ) → minus a a ≡ 0
minus_itself a = same_set _ _ (λ k. grind (arith, has-minus, has-empty))

pub minus-minus : (a b c : ℕ) → minus (minus a b) c ≡ minus a (union b c)
minus-minus a b c = same_set _ _ (λ k. grind (arith, has-union, has-minus))

pub minus-union_back : (a b : ℕ) → Within b a → union (minus a b) b ≡ a
minus-union_back a b within = same_set _ _ (λ k. let h = within k in grind (arith, has-union, has-minus))

-- what is in one of two sets and not in the other
pub union-minus_both : (a b : ℕ) → union (minus a b) (minus b a) ≡ bit_xor a b
union-minus_both a b = same_set _ _ (λ k. grind (arith, has-union, has-minus, has-differ))

-- ---- members
pub has-single_itself : (k : ℕ) → has (single k) k ≡ true
has-single_itself k = grind (arith, nat_tests, has-single)

pub has-if : (t : Bool) (s k : ℕ) → has (cond t s 0) k ≡ (t && has s k)
has-if t s k = grind (arith, has-empty)

pub has-common_kept : (a b k : ℕ) → has b k ≡ true → has (common a b) k ≡ has a k
has-common_kept a b k is = grind (arith, has-common)

pub none_from_no_member : (s : ℕ) → ((k : ℕ) → has s k ≡ false) → s ≡ 0
none_from_no_member s none = same_set s 0 (λ k. none k ∙ sym (has-empty k))

pub in_union : (a b k : ℕ) → has (union a b) k ≡ true → (has a k ≡ true) ⊎ (has b k ≡ true)
in_union a b k is = grind (arith, has-union)

pub in_common : (a b k : ℕ) → has (common a b) k ≡ true → (has a k ≡ true) × (has b k ≡ true)
in_common a b k is = grind (arith, has-common)

pub in_minus : (a b k : ℕ) → has (minus a b) k ≡ true → (has a k ≡ true) × (has b k ≡ false)
in_minus a b k is = grind (arith, has-minus)

pub in_with : (a i k : ℕ) → (has (union a (single i)) k ≡ true) ↔ ((has a k ≡ true) ⊎ (k ≡ i))
in_with a i k = (λ h. grind (arith, nat_tests, has-union, has-single), λ h. grind (arith, nat_tests, has-union, has-single))

pub has-without_itself : (a k : ℕ) → has (minus a (single k)) k ≡ false
has-without_itself a k = grind (arith, has-minus a (single k) k, has-single_itself k)

pub has-without_other : (a k j : ℕ) → has a j ≡ true → eqb j k ≡ false → has (minus a (single k)) j ≡ true
has-without_other a k j is other = grind (arith, has-minus a (single k) j, has-single k j)

-- ---- within
pub within_antisymmetric : (a b : ℕ) → Within a b → Within b a → a ≡ b
within_antisymmetric a b to from = same_set a b (λ k. let h = to k in let h' = from k in grind arith)

pub none_within : (a : ℕ) → Within 0 a
none_within a k is = grind (arith, has-empty)

pub within_union_left : (a b : ℕ) → Within a (union a b)
within_union_left a b k is = grind (arith, has-union)

pub within_union_right : (a b : ℕ) → Within b (union a b)
within_union_right a b k is = grind (arith, has-union)

pub union_within : (a b c : ℕ) → Within a c → Within b c → Within (union a b) c
union_within a b c first second k is = elim (in_union a b k is) [ inl h ↦ first k h | inr h ↦ second k h ]

pub unions_within : (a b c d : ℕ) → Within a c → Within b d → Within (union a b) (union c d)
unions_within a b c d first second k is = let h = first k in let h' = second k in grind (arith, has-union)

pub commons_within : (a b c d : ℕ) → Within a c → Within b d → Within (common a b) (common c d)
commons_within a b c d first second k is = let h = first k in let h' = second k in grind (arith, has-common)

pub single_within : (k c : ℕ) → has c k ≡ true → Within (single k) c
single_within k c is j h = let same : j ≡ k = grind (arith, nat_tests, has-single) in rw same is

pub with_within : (a k c : ℕ) → Within a c → has c k ≡ true → Within (union a (single k)) c
with_within a k c within is = union_within a (single k) c within (single_within k c is)

pub common_within_left : (a b : ℕ) → Within (common a b) a
common_within_left a b k is = (in_common a b k is).0

pub common_within_right : (a b : ℕ) → Within (common a b) b
common_within_right a b k is = (in_common a b k is).1

pub minus_within : (a b : ℕ) → Within (minus a b) a
minus_within a b k is = (in_minus a b k is).0

pub cases_within : (a b : ℕ) → Within a b ⊎ ¬ Within a b
cases_within a b = elim (cases_Bool (eqb (common a b) a)) [
  | inl e ↦ inl (within_where_common a b (grind (arith, nat_tests)))
  | inr e ↦ inr (λ within. let same = common_where_within a b within in grind (arith, nat_tests))
]

pub meets_either : (a b e : ℕ) → ¬ Meets a e → ¬ Meets b e → ¬ Meets (union a b) e
meets_either a b e first second meets = elim (in_union a b meets.member meets.in_first) [
  | inl one ↦ first (record { member = meets.member; in_first = one; in_second = meets.in_second })
  | inr other ↦ second (record { member = meets.member; in_first = other; in_second = meets.in_second })
]

pub meets_within : (a b e : ℕ) → Within a b → Meets a e → Meets b e
meets_within a b e within meets = record { member = meets.member; in_first = within meets.member meets.in_first; in_second = meets.in_second }

-- ---- below a bound
pub minus-lt : (n a b : ℕ) → a < 2 ^ n → minus a b < 2 ^ n
minus-lt n a b small = omega (arith, minus-le a b)

pub common-lt : (n a b : ℕ) → a < 2 ^ n → common a b < 2 ^ n
common-lt n a b small = omega (arith, Within-le (common a b) a (common_within_left a b))

pub with-lt : (n a k : ℕ) → a < 2 ^ n → k < n → union a (single k) < 2 ^ n
with-lt n a k small less = union-lt n a (single k) small (single-lt n k less)

pub none-lt : (n : ℕ) → 0 < 2 ^ n
none-lt n = omega (arith, below_power n)

pub below_from_within : (s n : ℕ) → Within s (such_that n (λ k. true)) → s < 2 ^ n
below_from_within s n within = omega (arith, Within-le s _ within, such_that-lt n (λ k. true))

-- a set without one of its members is less
pub without-lt : (s k : ℕ) → has s k ≡ true → minus s (single k) < s
without-lt s k is = elim (cases_Bool (eqb (minus s (single k)) s)) [
  | inl e ↦ let same : minus s (single k) ≡ s = grind (arith, nat_tests) in let h = ap (λ t. has t k) same in grind (arith, has-minus s (single k) k, has-single_itself k)
  | inr e ↦ let le = minus-le s (single k) in grind (arith, nat_tests)
]

-- ---- how many
pub size-none : size 0 ≡ 0
size-none = ap length members-empty

pub size-single : (k : ℕ) → size (single k) ≡ 1
size-single k = ap length (members-least (single k) k (record { in_set = has-single_itself k; none_below = λ j less. grind (arith, nat_tests, has-single) }) ∙ ap (λ s. k ∷ members s) (minus_itself (single k)) ∙ ap (λ ks. k ∷ ks) members-empty)

pub size-all : (n : ℕ) → size (such_that n (λ k. true)) ≡ n
size-all n = size-count _ n (such_that-lt n _) ∙ count_all _ n 0 (λ k less. grind (arith, nat_tests, has-such_that n (λ j. true) k))

pub size_within : (a b : ℕ) → Within a b → size a ≤ size b
size_within a b within = size-le a b b (below_power b) within

pub size-union_apart : (a b : ℕ) → ¬ Meets a b → size (union a b) ≡ size a + size b
size-union_apart a b apart = size-union a b (a + b) (omega (arith, below_power (a + b))) (omega (arith, below_power (a + b))) (λ k is. false_from_ne_true _ (λ h. apart (record { member = k; in_first = is; in_second = h })))

pub size-without : (s k : ℕ) → has s k ≡ true → size s ≡ size (minus s (single k)) + 1
size-without s k is = ap (λ t. size t) (sym (minus-union_back s (single k) (single_within k s is)))
    ∙ size-union_apart (minus s (single k)) (single k) (λ meets. grind (arith, has-minus s (single k) meets.member, meets.in_first, meets.in_second))
    ∙ ap (λ n. size (minus s (single k)) + n) (size-single k)

pub none_from_size : (s : ℕ) → size s ≡ 0 → s ≡ 0
none_from_size s none = none_from_no_member s (λ k. false_from_ne_true _ (λ is. absurd (omega (arith, size-without s k is))))

-- a set has more members than one within it that lacks one of them
pub size-less : (a b k : ℕ) → Within b a → has a k ≡ true → has b k ≡ false → size b < size a
size-less a b k within is not = let le = size_within b (minus a (single k)) (λ j h. let h' = within j h in elim (cases_Bool (eqb j k)) [
  | inl e ↦ let same : j ≡ k = grind (arith, nat_tests) in let h'' = ap (has b) same in grind arith
  | inr e ↦ grind (arith, has-minus a (single k) j, has-single k j)
]) in omega (arith, size-without a k is)

-- no later set lies within an earlier one
pub not_within_before : (a b : ℕ) → PairBefore a b → Within b a → ⊥
not_within_before a b (inl less) within = omega (arith, size_within b a within)
not_within_before a b (inr (same, lex)) within =
    let before = state_before_where_lex a b (a + b) (omega (arith, below_power (a + b))) (omega (arith, below_power (a + b))) same lex in
    omega (arith, size-less a b before.at within before.in_first before.not_in_second)

-- ---- members, and their lack
pub no_member_of_none : (s : ℕ) → s ≡ 0 → (k : ℕ) → has s k ≡ true → ⊥
no_member_of_none s none k member = true≢false (sym member ∙ ap (λ (t : ℕ). has t k) none ∙ has-empty k)

pub only_member : (s i : ℕ) → s ≡ single i → (k : ℕ) → has s k ≡ true → k ≡ i
only_member s i is k member = elim ((in_with 0 i k).0 (ap (λ (t : ℕ). has t k) (none-union (single i) ∙ sym is) ∙ member)) [
  | inl none ↦ absurd (true≢false (sym none ∙ has-empty k))
  | inr same ↦ same
]

-- what is not in the larger set is not in the smaller one
pub outside_larger : (a b k : ℕ) → Within a b → has b k ≡ false → has a k ≡ false
outside_larger a b k within out = false_from_ne_true (has a k) (λ member. true≢false (sym (within k member) ∙ out))

pub within_without : (a b k : ℕ) → Within a b → has a k ≡ false → Within a (minus b (single k))
within_without a b k within out j member = elim (cases_eq j k) [
  | inl same ↦ absurd (true≢false (sym member ∙ ap (has a) same ∙ out))
  | inr differ ↦ has-without_other b k j (within j member) (let e : eqb j k ≡ false = grind (arith, nat_tests) in e)
]

-- of a set of which nothing is missing in its part, that part is all
pub nothing_missing : (part all : ℕ) → Within part all → minus all part ≡ 0 → part ≡ all
nothing_missing part all within none = within_antisymmetric part all within (λ k member. elim (cases_Bool (has part k)) [
  | inl inside ↦ inside
  | inr out ↦ absurd (no_member_of_none (minus all part) none k (has-minus all part k ∙ rw (member, out) refl))
])

pub below_from_members : (n s : ℕ) → ((k : ℕ) → has s k ≡ true → k < n) → s < 2 ^ n
below_from_members n s low = below_from_within s n (λ k member. (let less : k < n = low k member in let is : ltb k n ≡ true = grind (arith, nat_tests) in has-such_that n (λ _. true) k ∙ ap (λ (b : Bool). b && true) is))

-- the numbers that pass a test, one by one
pub such_that_next : (p : ℕ → Bool) (i s s' : ℕ) (b : Bool) → p i ≡ b → s ≡ such_that i p → s' ≡ cond b (union s (single i)) s → s' ≡ such_that (i + 1) p
such_that_next p i s s' b at is done =
    done ∙ ap (λ (t : ℕ). cond b (union t (single i)) t) is ∙ ap (λ (c : Bool). cond c (union (such_that i p) (single i)) (such_that i p)) (sym at) ∙ sym (such_that-more i p)

pub cases_meet : (a b : ℕ) → Meets a b ⊎ (¬ Meets a b)
cases_meet a b = elim (meets_or_not a b a (below_power a)) [
  | inl meets ↦ inl meets
  | inr none ↦ inr (λ meets. true≢false (sym meets.in_second ∙ none meets.member meets.in_first))
]

-- ---- all numbers below a bound
pub has-all : (n k : ℕ) → k < n → has (such_that n (λ k. true)) k ≡ true
has-all n k less = let below : ltb k n ≡ true = grind (arith, nat_tests) in has-such_that n (λ k. true) k ∙ ap (λ (b : Bool). b && true) below

pub all_places_are : (n : ℕ) → 2 ^ n - 1 ≡ such_that n (λ k. true)
unfolding has
all_places_are n = same_set (2 ^ n - 1) (such_that n (λ k. true)) (λ k. by k (nat_lt k n) refl)
  where
    by : (k : ℕ) (b : Bool) → nat_lt k n ≡ b → has (2 ^ n - 1) k ≡ has (such_that n (λ j. true)) k
    by k true e =
        let less : k < n = grind (arith, nat_tests) in
        let test : ltb k n ≡ true = grind (arith, nat_tests) in
        let inside : has (such_that n (λ j. true)) k ≡ true = has-such_that n (λ j. true) k ∙ rw test refl in
        ap (λ (v : ℕ). nat_eq v 1) (bit_at_ones n k less) ∙ sym inside
    by k false e =
        let past : n ≤ k = grind (arith, nat_tests) in
        let test : ltb k n ≡ false = grind (arith, nat_tests) in
        let outside : has (such_that n (λ j. true)) k ≡ false = has-such_that n (λ j. true) k ∙ rw test refl in
        ap (λ (v : ℕ). nat_eq v 1) (bit_at_ones_above n k past) ∙ sym outside

-- ---- sets of as many members, of no more, and of one
pub before_has_no_more : (a b : ℕ) → PairBefore a b → size a ≤ size b
before_has_no_more a b (inl less) = omega arith
before_has_no_more a b (inr (same, lex)) = omega arith

-- a set within one of as many members has all of them
pub within_back : (a b : ℕ) → Within a b → size a ≡ size b → Within b a
within_back a b within same k is = elim (cases_Bool (has a k)) [
  | inl there ↦ there
  | inr lacks ↦ let less = size-less b a k within is lacks in absurd (omega arith)
]

-- a set of one member lies within each set that has this member
pub one_within : (x s k : ℕ) → size x ≡ 1 → has x k ≡ true → has s k ≡ true → Within x s
one_within x s k one here there j h = elim (cases_eq j k) [
  | inl same ↦ subst (λ (z : ℕ). has s z ≡ true) (sym same) there
  | inr other ↦
      let out : has (single k) j ≡ false = grind (arith, nat_tests, has-single) in
      let less = size-less x (single k) j (single_within k x here) h out in
      let is = size-single k in
      absurd (omega arith)
]

-- the set of a number, where a test holds, has it where the test holds
pub has-single_if : (k : ℕ) (b : Bool) → has (cond b (single k) 0) k ≡ b
has-single_if k true = has-single_itself k
has-single_if k false = has-empty k
