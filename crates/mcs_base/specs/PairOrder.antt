-- The order of pairs as an order of std.
use Rattle.std.specs.Prelude.{◌≡◌, ℕ, ◌+◌, ◌^◌, ◌<◌, true, nat_eq}
use Rattle.std.proofs.Common.{refl, sym, ◌∙◌, ap, subst, inl, inr, ◌⊎◌, arith}
use Rattle.std.proofs.lemmas.Bool.Decides.{nat_tests}
use Rattle.std.proofs.lemmas.Cmp.{ranked, on_total, then_total, nat_cmp_total}
use Rattle.std.specs.declared.cmp.Ordering.{Ordering}
use Rattle.std.specs.declared.cmp.Ordering.TheVariants.{Less, Equal, Greater}
use Rattle.std.specs.Ordering.{ordering_reverse, ordering_then, MatchOrdering, nat_cmp, eq_by_cmp, as_partial_cmp}
use Rattle.std.specs.Cmp.{IsTotalOrder, IsPartialOrder, Equal-is, tied_itself, both_ways, po}
use Rattle.mcs_sets.specs.Sets.{size}
use Rattle.mcs_sets.specs.Orders.{PairBefore}
use Rattle.mcs_sets.proofs.SetLemmas.{below_power, lex_where_state_before, state_before_where_lex}
use Rattle.mcs_base.specs.StateOrder.{state_cmp, state_cmp_total, less_is, equal_is, cmp-before}

-- the one with fewer marks is the lesser; with equally many, the lesser state
unfoldable pub pair_cmp : ℕ → ℕ → Ordering
pair_cmp a b = ordering_then (nat_cmp (size a) (size b)) (state_cmp a b)

pub pair_cmp_total : IsTotalOrder pair_cmp
unfolding pair_cmp
pair_cmp_total = then_total (on_total size nat_cmp_total) state_cmp_total

left_small : (a b : ℕ) → a < 2 ^ (a + b)
left_small a b = let p = below_power (a + b) in omega arith

right_small : (a b : ℕ) → b < 2 ^ (a + b)
right_small a b = let p = below_power (a + b) in omega arith

pub pair_less_is : (a b : ℕ) → pair_cmp a b ≡ Less → PairBefore a b
unfolding pair_cmp
pair_less_is a b = at (nat_cmp (size a) (size b)) (ranked (size a) (size b) _ refl)
  where
    at : (o : Ordering) → MatchOrdering o (size a < size b) (size a ≡ size b) (size b < size a) → ordering_then o (state_cmp a b) ≡ Less → PairBefore a b
    at Less less h = inl less
    at Equal equal h = inr (equal, lex_where_state_before a b (a + b) (left_small a b) (right_small a b) equal (less_is a b h))
    at Greater more h = absurd (cc)

pub pair_equal_is : (a b : ℕ) → pair_cmp a b ≡ Equal → a ≡ b
unfolding pair_cmp
pair_equal_is a b = at (nat_cmp (size a) (size b))
  where
    at : (o : Ordering) → ordering_then o (state_cmp a b) ≡ Equal → a ≡ b
    at Less h = cc
    at Equal h = equal_is a b h
    at Greater h = cc

pub pair_before_less : (a b : ℕ) → PairBefore a b → pair_cmp a b ≡ Less
unfolding pair_cmp
pair_before_less a b = at (nat_cmp (size a) (size b)) (ranked (size a) (size b) _ refl)
  where
    at : (o : Ordering) → MatchOrdering o (size a < size b) (size a ≡ size b) (size b < size a) → PairBefore a b → ordering_then o (state_cmp a b) ≡ Less
    at Less less h = refl
    at Equal equal (inl less) = absurd (omega arith)
    at Equal equal (inr h) = sym (cmp-before a b (state_before_where_lex a b (a + b) (left_small a b) (right_small a b) equal h.1))
    at Greater more (inl less) = absurd (omega arith)
    at Greater more (inr h) = absurd (omega (arith, h.0))

pub PairBefore-transitive : (a b c : ℕ) → PairBefore a b → PairBefore b c → PairBefore a c
PairBefore-transitive a b c h k = pair_less_is a c (pair_cmp_total.trans a b c (pair_before_less a b h) (pair_before_less b c k))

-- of two different sets one comes before the other
pub PairBefore-total : (a b : ℕ) → (a ≡ b) ⊎ (PairBefore a b ⊎ PairBefore b a)
PairBefore-total a b = at (pair_cmp a b) refl
  where
    at : (o : Ordering) → pair_cmp a b ≡ o → (a ≡ b) ⊎ (PairBefore a b ⊎ PairBefore b a)
    at Less e = inr (inl (pair_less_is a b e))
    at Equal e = inl (pair_equal_is a b e)
    at Greater e = inr (inr (pair_less_is b a (pair_cmp_total.antisymm b a ∙ ap ordering_reverse e)))

tie_itself : (a : ℕ) → eq_by_cmp pair_cmp a a ≡ true
tie_itself a = (Equal-is (pair_cmp a a)).1 (tied_itself pair_cmp_total a)

pub pair_tie : (a b : ℕ) → nat_eq a b ≡ eq_by_cmp pair_cmp a b
pair_tie a b = both_ways _ _
    (λ e. subst (λ (c : ℕ). eq_by_cmp pair_cmp a c ≡ true) (let same : a ≡ b = grind (arith, nat_tests) in same) (tie_itself a))
    (λ e. let same : a ≡ b = pair_equal_is a b ((Equal-is (pair_cmp a b)).0 e) in grind (arith, nat_tests))

pub pair_po : IsPartialOrder nat_eq (as_partial_cmp pair_cmp)
pair_po = po pair_cmp_total pair_tie

pub pair_cmp-same : (a b : ℕ) → a ≡ b → Equal ≡ pair_cmp a b
pair_cmp-same a b e = subst (λ (c : ℕ). Equal ≡ pair_cmp a c) e (sym (tied_itself pair_cmp_total a))

pub pair_cmp-after : (a b : ℕ) → ¬ (a ≡ b) → ¬ PairBefore a b → Greater ≡ pair_cmp a b
pair_cmp-after a b differ not = at (pair_cmp a b) refl
  where
    at : (o : Ordering) → pair_cmp a b ≡ o → Greater ≡ pair_cmp a b
    at Less e = absurd (not (pair_less_is a b e))
    at Equal e = absurd (differ (pair_equal_is a b e))
    at Greater e = sym e
