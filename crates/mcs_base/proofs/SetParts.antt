-- Sets by their parts and what they miss.
use Rattle.std.proofs.Common.{◌≡◌, ℕ, ◌+◌, ◌<◌, ◌≤◌, ◌^◌, Bool, true, false, not, ◌&&◌, ◌||◌, cond, eqb, ltb, List, [], ◌∷◌, ◌++◌, refl, sym, ap, ◌∙◌, subst, inl, inr, ◌⊎◌, arith, true≢false}
use Rattle.std.proofs.lemmas.Bool.{and_parts}
use Rattle.std.proofs.lemmas.Bool.Decides.{nat_tests}
use Rattle.std.proofs.Math.Bool.{or_assoc}
use Rattle.std.specs.List.{AllByRecursion}
use Rattle.mcs_sets.specs.Sets.{has, single, union, common, minus, such_that, members, members_from, Within}
use Rattle.mcs_sets.proofs.SetLemmas.{same_set, sets, has-empty, has-single, has-union, has-minus, has-such_that, such_that-lt, members_from-append, minus-le, Within-le}
use Rattle.mcs_sets.proofs.Lattice.{below_from_within, has-without_itself, in_minus, none_from_no_member}
use Rattle.mcs_base.proofs.ListingLemmas.{members_all_below}

-- ---- parts that are joined
pub union_of_commons : (a b s t u : ℕ) → common s a ≡ t → common s b ≡ u → common (union t u) (union a b) ≡ common s (union a b)
union_of_commons a b s t u first second = same_set _ _ (λ k. let e = ap (λ z. has z k) first in let e' = ap (λ z. has z k) second in at k e e')
  where
    at : (k : ℕ) → has (common s a) k ≡ has t k → has (common s b) k ≡ has u k → has (common (union t u) (union a b)) k ≡ has (common s (union a b)) k
    at k e e' = grind (arith, sets)

pub commons_agree : (a b s u : ℕ) → common s b ≡ u → common (common s a) b ≡ common u a
commons_agree a b s u second = same_set _ _ (λ k. let e = ap (λ z. has z k) second in at k e)
  where
    at : (k : ℕ) → has (common s b) k ≡ has u k → has (common (common s a) b) k ≡ has (common u a) k
    at k e = grind (arith, sets)

-- one member more, of a set that is gathered
pub has-with_or : (all j k : ℕ) (rest whole : Bool) → (has all k || (eqb k j || rest)) ≡ whole → (has (union all (single j)) k || rest) ≡ whole
has-with_or all j k rest whole e = rw (has-union all (single j) k, has-single j k) (or_assoc (has all k) (eqb k j) rest ∙ e)

pub none_is_within : (a b : ℕ) → a ≡ 0 → Within a b
none_is_within a b none k h = absurd (true≢false (sym h ∙ ap (λ (s : ℕ). has s k) none ∙ has-empty k))

-- ---- what is missing
-- where the same is missing and the same is too much, it is the same
pub same_from_minus : (a x y : ℕ) → minus a x ≡ minus a y → minus x a ≡ minus y a → x ≡ y
same_from_minus a x y less more = same_set x y at
  where
    each : (u v w : Bool) → (u && not v) ≡ (u && not w) → (v && not u) ≡ (w && not u) → v ≡ w
    each true true true f g = refl
    each true true false f g = sym f
    each true false true f g = sym f
    each true false false f g = refl
    each false true true f g = refl
    each false true false f g = g
    each false false true f g = g
    each false false false f g = refl

    at : (k : ℕ) → has x k ≡ has y k
    at k = each (has a k) (has x k) (has y k) (sym (has-minus a x k) ∙ (ap (λ s. has s k) less ∙ has-minus a y k)) (sym (has-minus x a k) ∙ (ap (λ s. has s k) more ∙ has-minus y a k))

-- what is missing where one less is left
pub minus_less : (set left k i : ℕ) → has (minus set (minus left (single k))) i ≡ true → (has (minus set left) i ≡ true) ⊎ (i ≡ k)
minus_less set left k i member =
    let (inside, out) = in_minus set (minus left (single k)) i member in
    at (has left i) (has (single k) i) refl refl inside (sym (has-minus left (single k) i) ∙ out)
  where
    at : (b e : Bool) → has left i ≡ b → has (single k) i ≡ e → has set i ≡ true → (has left i && not (has (single k) i)) ≡ false → (has (minus set left) i ≡ true) ⊎ (i ≡ k)
    at false e is same inside none = inl (has-minus set left i ∙ ap (λ c. c && not (has left i)) inside ∙ ap not is)
    at true true is same inside none = inr (grind (arith, has-single))
    at true false is same inside none = absurd (true≢false (sym (ap (λ c. c && not (has (single k) i)) is ∙ ap not same) ∙ none))

pub less_minus : (set left k i : ℕ) → (has (minus set left) i ≡ true) ⊎ (i ≡ k) → has set k ≡ true → has (minus set (minus left (single k))) i ≡ true
less_minus set left k i (inl old) inside = let (is, out) = in_minus set left i old in
    has-minus set (minus left (single k)) i ∙ ap (λ c. c && not (has (minus left (single k)) i)) is ∙ ap not (has-minus left (single k) i ∙ ap (λ c. c && not (has (single k) i)) out)
less_minus set left k i (inr same) inside =
    subst (λ (j : ℕ). has (minus set (minus left (single k))) j ≡ true) (sym same)
    (has-minus set (minus left (single k)) k ∙ ap (λ c. c && not (has (minus left (single k)) k)) inside ∙ ap not (has-without_itself left k))

pub minus_is_less : (set left : ℕ) → Within left set → ¬ (left ≡ 0) → ¬ (minus set left ≡ set)
minus_is_less set left part some same = some (none_from_no_member left (λ k. at k (has left k) refl))
  where
    at : (k : ℕ) (b : Bool) → has left k ≡ b → has left k ≡ false
    at k false is = is
    at k true is =
        let out : has (minus set left) k ≡ false = has-minus set left k ∙ ap (λ c. c && not (has left k)) (part k is) ∙ ap not is in
        absurd (true≢false (sym (part k is) ∙ ap (λ (s : ℕ). has s k) (sym same) ∙ out))

-- ---- sets of numbers below a bound
abbrev pub AreBelow : ℕ → List ℕ → Type 0
AreBelow n ks = AllByRecursion (λ k. k < n) ks

pub below_from_fewer : (n w s : ℕ) → n ≤ w → Within s (such_that n (λ k. true)) → s < 2 ^ w
below_from_fewer n w s few within = below_from_within s w (λ k member. wide k (has-such_that n (λ k. true) k) (within k member))
  where
    wide : (k : ℕ) → has (such_that n (λ k. true)) k ≡ (ltb k n && true) → has (such_that n (λ k. true)) k ≡ true → has (such_that w (λ k. true)) k ≡ true
    wide k e member =
        let less : ltb k n ≡ true = (and_parts (ltb k n) true (sym e ∙ member)).0 in
        let below : ltb k w ≡ true = (let bound : k < n = grind (arith, nat_tests) in let bound' : k < w = omega arith in grind (arith, nat_tests)) in
        has-such_that w (λ k. true) k ∙ ap (λ c. c && true) below

pub minus_below : (set left n w : ℕ) → n ≤ w → Within set (such_that n (λ k. true)) → minus set left < 2 ^ w
minus_below set left n w few within = omega (arith, minus-le set left, below_from_fewer n w set few within)

pub members_below_all : (s n : ℕ) → Within s (such_that n (λ k. true)) → AreBelow n (members s)
members_below_all s n within = members_all_below s n (omega (arith, Within-le s _ within, such_that-lt n (λ k. true)))

pub members_from-more : (s i : ℕ) (b : Bool) → has s i ≡ b → members_from 0 (i + 1) s ≡ members_from 0 i s ++ cond b (i ∷ []) []
unfolding members_from
members_from-more s i b is = members_from-append s i 1 0 ∙ (let z : 0 + i ≡ i = omega arith in ap (λ (n : ℕ). members_from 0 i s ++ cond (has s n) (n ∷ []) []) z) ∙ ap (λ c. members_from 0 i s ++ cond c (i ∷ []) []) is
