-- Lists without repeats, and how many of a list's elements pass a test.
use Rattle.std.proofs.Common.{◌≡◌, ℕ, ◌+◌, suc, Bool, true, false, cond, List, [], ◌∷◌, filter, length, Some, refl, ap, ◌∙◌, arith}
use Rattle.std.specs.Prelude.{slice_get}
use Rattle.mcs_sets.proofs.SetLemmas.{count_from}

-- ---- how many pass
-- of the places from k on
pub count-places : {A : Type 0} (p : A → Bool) (q : ℕ → Bool) (k : ℕ) (xs : List A) → ((j : ℕ) (x : A) → slice_get xs j ≡ Some x → q (k + j) ≡ p x) → count_from k (length xs) q ≡ length (filter p xs)
unfolding count_from
count-places p q k [] same = refl
count-places {A} p q k (x ∷ xs) same = at (p x) (same 0 x refl) (count-places p q (k + 1) xs (λ j y there. let e : k + 1 + j ≡ k + suc j = omega arith in ap q e ∙ same (suc j) y there))
  where
    at : (b : Bool) → q (k + 0) ≡ b → count_from (k + 1) (length xs) q ≡ length (filter p xs) → cond (q k) 1 0 + count_from (k + 1) (length xs) q ≡ length (cond b (x ∷ filter p xs) (filter p xs))
    at true is rest = let first : cond {A = ℕ} (q k) 1 0 ≡ 1 = let e : k ≡ k + 0 = omega arith in rw (ap q e ∙ is) refl in omega arith
    at false is rest = let first : cond {A = ℕ} (q k) 1 0 ≡ 0 = let e : k ≡ k + 0 = omega arith in rw (ap q e ∙ is) refl in omega arith
