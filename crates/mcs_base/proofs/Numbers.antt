-- Numbers, beyond std's lemmas.
use Rattle.std.proofs.Common.{◌≡◌, ◌≢◌, zero, suc, refl, inl, inr, ◌⊎◌, ℤ, pos, negsuc, neg_ℤ, ◌-ℤ◌, int_eq, arith, Bool, true, false, cond, ◌*◌, ◌≤◌, ℕ}
use Rattle.std.proofs.lemmas.Bool.{cases_Bool, iff_false}
use Rattle.std.proofs.lemmas.Bool.Decides.{Decides-int_eq}
use Rattle.std.proofs.lemmas.Int.{ints}
use Rattle.std.specs.Int.RustNames.{unsigned_abs}

pub unsigned_abs-neg_ℤ : (k : ℤ) → unsigned_abs (neg_ℤ k) ≡ unsigned_abs k
unsigned_abs-neg_ℤ (pos zero) = refl
unsigned_abs-neg_ℤ (pos (suc n)) = refl
unsigned_abs-neg_ℤ (negsuc n) = refl

pub zero-minus : (k : ℤ) → pos 0 -ℤ k ≡ neg_ℤ k
zero-minus k = omega (arith, ints)

pub cases_eq_ℤ : (j k : ℤ) → (j ≡ k) ⊎ (j ≢ k)
cases_eq_ℤ j k = elim (cases_Bool (int_eq j k)) [ inl e ↦ inl ((Decides-int_eq j k).0 e) | inr e ↦ inr (iff_false (Decides-int_eq j k) e) ]

pub cond_times-le : (b : Bool) (n : ℕ) → cond b 1 0 * n ≤ n
cond_times-le true n = grind arith
cond_times-le false n = grind arith
