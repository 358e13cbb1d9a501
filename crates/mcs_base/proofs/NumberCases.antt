-- What a number's being zero chooses, counts that fall, and integers of one size.
use Rattle.std.proofs.Common.{◌≡◌, ◌≢◌, ℕ, ◌+◌, ◌-◌, ◌*◌, ◌<◌, zero, suc, cond, nat_eq, refl, ap, subst, sym, inl, inr, ◌⊎◌, arith, ℤ, pos, negsuc, neg_ℤ, unsigned_abs, ◌≤◌, ◌^◌, true, true≢false}
use Rattle.std.proofs.lemmas.Bool.{cond-false, cases_eq, cases_lt}
use Rattle.std.proofs.Math.Dec.{eqb-suc-zero}
use Rattle.mcs_base.proofs.Numbers.{cases_eq_ℤ}
use Rattle.std.proofs.lemmas.Nat.{pow_pos}
use Rattle.std.proofs.Math.Pow.{pow_mono}
use Rattle.std.proofs.lemmas.Cmp.{ranked}
use Rattle.std.specs.declared.cmp.Ordering.{Ordering}
use Rattle.std.specs.declared.cmp.Ordering.TheVariants.{Less, Equal, Greater}
use Rattle.std.specs.Ordering.{MatchOrdering, is_lt, nat_cmp}

pub cases_zero : (n : ℕ) → (n ≡ 0) ⊎ (0 < n)
cases_zero zero = inl refl
cases_zero (suc n) = inr (omega arith)

pub cond_at_zero : {A : Type 0} (n : ℕ) (x y : A) → n ≡ 0 → cond (nat_eq n 0) x y ≡ x
cond_at_zero zero x y e = refl
cond_at_zero (suc n) x y e = absurd (omega arith)

pub cond_above_zero : {A : Type 0} (n : ℕ) (x y : A) → 0 < n → cond (nat_eq n 0) x y ≡ y
cond_above_zero zero x y some = absurd (omega arith)
cond_above_zero (suc n) x y some = cond-false (nat_eq (suc n) 0) x y (eqb-suc-zero n)

-- a count of rounds of at most u steps and of steps in this one: it falls with one round less
pub rounds_fall : (b w w' u : ℕ) → 0 < b → w' < u → (b - 1) * u + w' < b * u + w
rounds_fall zero w w' u some less = absurd (omega arith)
rounds_fall (suc b) w w' u some less =
    let one : suc b - 1 ≡ b = omega arith in
    subst (λ (n : ℕ). n * u + w' < suc b * u + w) (sym one) (omega arith)

-- integers of one size are the same or each other's negation
pub same_unsigned_abs : (a b : ℤ) → unsigned_abs a ≡ unsigned_abs b → (a ≡ b) ⊎ (a ≡ neg_ℤ b)
same_unsigned_abs a b e = elim (cases_eq_ℤ a b) [ inl same ↦ inl same | inr other ↦ inr (turned a b e other) ]
  where
    turned : (a b : ℤ) → unsigned_abs a ≡ unsigned_abs b → a ≢ b → a ≡ neg_ℤ b
    turned (pos m) (pos n) e other = absurd (other (ap pos e))
    turned (pos m) (negsuc n) e other = ap pos e
    turned (negsuc m) (pos zero) e other = absurd (omega arith)
    turned (negsuc m) (pos (suc n)) e other = ap negsuc (omega arith)
    turned (negsuc m) (negsuc n) e other = absurd (other (ap negsuc (omega arith)))

-- the greatest number below a power of 2
pub power_less_one : (n : ℕ) → 2 ^ n - 1 + 1 ≡ 2 ^ n
power_less_one n = let some : 0 < 2 ^ n = pow_pos n in omega arith

-- a power of 2 up to 2 ^ 10
pub power_up_to_ten : (n : ℕ) → n ≤ 10 → 2 ^ n ≤ 1024
power_up_to_ten n few = pow_mono few

-- what is not below is at least
pub not_less : (a b : ℕ) → ¬ (a < b) → b ≤ a
not_less a b not = omega (arith, not)

-- ---- two numbers
pub cases_order : (a b : ℕ) → (a ≡ b) ⊎ ((a < b) ⊎ (b < a))
cases_order a b = elim (cases_lt a b) [
  | inl less ↦ inr (inl less)
  | inr most ↦ elim (cases_eq a b) [ inl same ↦ inl same | inr differ ↦ inr (inr (omega (arith, most, differ))) ]
]

-- the test of a comparison
pub less_test : (a b : ℕ) → a < b → is_lt (nat_cmp a b) ≡ true
less_test a b less = at (nat_cmp a b) (ranked a b _ refl)
  where
    at : (o : Ordering) → MatchOrdering o (a < b) (a ≡ b) (b < a) → is_lt o ≡ true
    at Less m = refl
    at Equal m = absurd (omega arith)
    at Greater m = absurd (omega arith)

pub test_less : (a b : ℕ) → is_lt (nat_cmp a b) ≡ true → a < b
test_less a b h = at (nat_cmp a b) (ranked a b _ refl) h
  where
    at : (o : Ordering) → MatchOrdering o (a < b) (a ≡ b) (b < a) → is_lt o ≡ true → a < b
    at Less m h = m
    at Equal m h = absurd (true≢false (sym h))
    at Greater m h = absurd (true≢false (sym h))
