-- The order of states as an order of std.
use Rattle.std.specs.Prelude.{◌≡◌, ℕ, ◌+◌, ◌<◌, ◌≤◌, Bool, true, false, nat_eq}
use Rattle.std.proofs.Common.{zero, suc, refl, sym, ap, ◌∙◌, subst, inl, inr, ◌⊎◌, arith, true≢false, add_comm}
use Rattle.std.proofs.lemmas.Bool.{cases_lt}
use Rattle.std.proofs.lemmas.Bool.Decides.{nat_tests}
use Rattle.std.specs.declared.cmp.Ordering.{Ordering}
use Rattle.std.specs.declared.cmp.Ordering.TheVariants.{Less, Equal, Greater}
use Rattle.std.specs.Ordering.{ordering_reverse, eq_by_cmp, as_partial_cmp}
use Rattle.std.specs.Cmp.{IsTotalOrder, IsPartialOrder, Equal-is, tied_itself, both_ways, po}
use Rattle.mcs_sets.specs.Sets.{has}
use Rattle.mcs_sets.specs.Orders.{StateBefore}
use Rattle.mcs_sets.proofs.SetLemmas.{before_total, below_power, members_below, StateBefore-asymmetric, not_before_itself}

abbrev pub decide_by : Bool → Bool → Ordering → Ordering
decide_by true true rest = rest
decide_by true false rest = Less
decide_by false true rest = Greater
decide_by false false rest = rest

-- looks at k, k + 1, .. in turn: the first in which the sets differ decides
unfoldable pub compare_from : ℕ → ℕ → ℕ → ℕ → Ordering
compare_from zero k a b = Equal
compare_from (suc f) k a b = decide_by (has a k) (has b k) (compare_from f (k + 1) a b)

-- the set that holds the least number in which they differ is the lesser one
unfoldable pub state_cmp : ℕ → ℕ → Ordering
state_cmp a b = compare_from (a + b) 0 a b

turned : (f k a b : ℕ) → compare_from f k a b ≡ ordering_reverse (compare_from f k b a)
unfolding compare_from
turned zero k a b = refl
turned (suc f) k a b = at (has a k) (has b k) (turned f (k + 1) a b)
  where
    at : (u v : Bool) → compare_from f (k + 1) a b ≡ ordering_reverse (compare_from f (k + 1) b a) → decide_by u v (compare_from f (k + 1) a b) ≡ ordering_reverse (decide_by v u (compare_from f (k + 1) b a))
    at true true rest = rest
    at true false rest = refl
    at false true rest = refl
    at false false rest = rest

itself : (f k a : ℕ) → compare_from f k a a ≡ Equal
unfolding compare_from
itself zero k a = refl
itself (suc f) k a = at (has a k) (itself f (k + 1) a)
  where
    at : (u : Bool) → compare_from f (k + 1) a a ≡ Equal → decide_by u u (compare_from f (k + 1) a a) ≡ Equal
    at true rest = rest
    at false rest = rest

less_from : (f k a b at : ℕ) → k ≤ at → at < k + f → has a at ≡ true → has b at ≡ false → ((j : ℕ) → j < at → has a j ≡ has b j) → compare_from f k a b ≡ Less
unfolding compare_from
less_from zero k a b at from below is not same = absurd (omega arith)
less_from (suc f) k a b at from below is not same = elim (cases_lt k at) [
  | inl less ↦ skip (has a k) (has b k) (same k less) (less_from f (k + 1) a b at (omega arith) (omega arith) is not same)
  | inr past ↦ let here : at ≡ k = omega arith in now (has a k) (has b k) (ap (has a) (sym here) ∙ is) (ap (has b) (sym here) ∙ not)
]
  where
    skip : (u v : Bool) → u ≡ v → compare_from f (k + 1) a b ≡ Less → decide_by u v (compare_from f (k + 1) a b) ≡ Less
    skip true true e rest = rest
    skip true false e rest = refl
    skip false true e rest = absurd (true≢false (sym e))
    skip false false e rest = rest

    now : (u v : Bool) → u ≡ true → v ≡ false → decide_by u v (compare_from f (k + 1) a b) ≡ Less
    now true false e e' = refl
    now true true e e' = absurd (true≢false e')
    now false v e e' = absurd (true≢false (sym e))

less_where : (a b n : ℕ) → a + b ≤ n → StateBefore a b → compare_from n 0 a b ≡ Less
less_where a b n wide h = less_from n 0 a b h.at (omega arith) (let less = members_below a a h.at (below_power a) h.in_first in omega arith) h.in_first h.not_in_second h.same_below

-- one of these for each two sets
pub compared : (a b : ℕ) → ((state_cmp a b ≡ Equal) × (a ≡ b)) ⊎ (((state_cmp a b ≡ Less) × StateBefore a b) ⊎ ((state_cmp a b ≡ Greater) × StateBefore b a))
unfolding state_cmp
compared a b = elim (before_total (a + b) a b (let p = below_power (a + b) in omega arith) (let p = below_power (a + b) in omega arith)) [
  | inl e ↦ inl (subst (λ (c : ℕ). compare_from (a + c) 0 a c ≡ Equal) e (itself (a + a) 0 a), e)
  | inr (inl h) ↦ inr (inl (less_where a b (a + b) (omega arith) h, h))
  | inr (inr h) ↦ inr (inr (turned (a + b) 0 a b ∙ ap ordering_reverse (less_where b a (a + b) (omega arith) h), h))
]

pub less_is : (a b : ℕ) → state_cmp a b ≡ Less → StateBefore a b
less_is a b e = elim (compared a b) [
  | inl (e', same) ↦ absurd (let no : Less ≡ Equal = sym e ∙ e' in cc)
  | inr (inl (e', h)) ↦ h
  | inr (inr (e', h)) ↦ absurd (let no : Less ≡ Greater = sym e ∙ e' in cc)
]

pub equal_is : (a b : ℕ) → state_cmp a b ≡ Equal → a ≡ b
equal_is a b e = elim (compared a b) [
  | inl (e', same) ↦ same
  | inr (inl (e', h)) ↦ absurd (let no : Equal ≡ Less = sym e ∙ e' in cc)
  | inr (inr (e', h)) ↦ absurd (let no : Equal ≡ Greater = sym e ∙ e' in cc)
]

pub StateBefore-transitive : (a b c : ℕ) → StateBefore a b → StateBefore b c → StateBefore a c
StateBefore-transitive a b c h k = elim (cases_lt h.at k.at) [
  | inl less ↦ record { at = h.at; in_first = h.in_first; not_in_second = sym (k.same_below h.at less) ∙ h.not_in_second; same_below = λ j below. h.same_below j below ∙ k.same_below j (omega arith) }
  | inr past ↦ elim (cases_lt k.at h.at) [
    | inl less ↦ record { at = k.at; in_first = h.same_below k.at less ∙ k.in_first; not_in_second = k.not_in_second; same_below = λ j below. h.same_below j (omega arith) ∙ k.same_below j below }
    | inr past' ↦ let same : h.at ≡ k.at = omega arith in absurd (true≢false (sym k.in_first ∙ ap (has b) (sym same) ∙ h.not_in_second))
  ]
]

pub state_cmp_total : IsTotalOrder state_cmp
unfolding state_cmp
state_cmp_total = record {
  antisymm = λ a b. turned (a + b) 0 a b ∙ ap (λ n. ordering_reverse (compare_from n 0 b a)) (add_comm a b);
  trans = λ a b c h k. less_where a c (a + c) (omega arith) (StateBefore-transitive a b c (less_is a b h) (less_is b c k));
  congr = λ a b c h. ap (λ x. compare_from (x + c) 0 x c) (equal_is a b h);
}

tie_itself : (a : ℕ) → eq_by_cmp state_cmp a a ≡ true
tie_itself a = (Equal-is (state_cmp a a)).1 (tied_itself state_cmp_total a)

pub state_tie : (a b : ℕ) → nat_eq a b ≡ eq_by_cmp state_cmp a b
state_tie a b = both_ways _ _
    (λ e. subst (λ (c : ℕ). eq_by_cmp state_cmp a c ≡ true) (let same : a ≡ b = grind (arith, nat_tests) in same) (tie_itself a))
    (λ e. let same : a ≡ b = equal_is a b ((Equal-is (state_cmp a b)).0 e) in grind (arith, nat_tests))

pub state_po : IsPartialOrder nat_eq (as_partial_cmp state_cmp)
state_po = po state_cmp_total state_tie

pub cmp-same : (a b : ℕ) → a ≡ b → Equal ≡ state_cmp a b
cmp-same a b e = subst (λ (c : ℕ). Equal ≡ state_cmp a c) e (sym (tied_itself state_cmp_total a))

pub cmp-before : (a b : ℕ) → StateBefore a b → Less ≡ state_cmp a b
cmp-before a b h = elim (compared a b) [
  | inl (e, same) ↦ absurd (not_before_itself b (subst (λ (c : ℕ). StateBefore c b) same h))
  | inr (inl (e, h')) ↦ sym e
  | inr (inr (e, h')) ↦ absurd (StateBefore-asymmetric a b h h')
]

pub cmp-after : (a b : ℕ) → ¬ (a ≡ b) → ¬ StateBefore a b → Greater ≡ state_cmp a b
cmp-after a b differ not = elim (compared a b) [
  | inl (e, same) ↦ absurd (differ same)
  | inr (inl (e, h)) ↦ absurd (not h)
  | inr (inr (e, h)) ↦ sym e
]

-- of two different sets one comes before the other
pub StateBefore-total : (a b : ℕ) → (a ≡ b) ⊎ (StateBefore a b ⊎ StateBefore b a)
StateBefore-total a b = before_total (a + b) a b (let p = below_power (a + b) in omega arith) (let p = below_power (a + b) in omega arith)
