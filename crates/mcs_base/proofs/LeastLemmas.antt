-- The least of some numbers.
use Rattle.std.proofs.Common.{◌≡◌, ℕ, ◌≤◌, min, List, [], ◌∷◌, ◌++◌, Some, refl, sym, subst, inl, inr, arith}
use Rattle.std.proofs.lemmas.Bool.{cases_lt}
use Rattle.mcs_base.specs.Listings.{IsAmong}
use Rattle.mcs_base.proofs.Among.{among_left, among_push}
use Rattle.mcs_base.proofs.Each.{all_among, all_push, all_weaker}
use Rattle.mcs_base.specs.Least.{IsLeastOf}

-- a number is at least the least one
pub at_least : (xs : List ℕ) (n x : ℕ) → IsLeastOf xs (Some n) → IsAmong x xs → n ≤ x
at_least xs n x least among = all_among (λ k. n ≤ k) xs x least.1 among

pub least_is_one : (xs : List ℕ) (n k : ℕ) → IsLeastOf xs (Some n) → IsLeastOf xs (Some k) → n ≡ k
least_is_one xs n k a b = omega (arith, at_least xs n k a b.0, at_least xs k n b a.0)

-- the first number
pub least_first : (xs : List ℕ) (x : ℕ) → xs ≡ [] → IsLeastOf (xs ++ x ∷ []) (Some x)
least_first xs x none = subst (λ (ys : List ℕ). IsLeastOf (ys ++ x ∷ []) (Some x)) (sym none) (inl refl, (let same : x ≤ x = omega arith in same, tt))

-- a further one
pub least_next : (xs : List ℕ) (n x k : ℕ) → k ≡ min n x → IsLeastOf xs (Some n) → IsLeastOf (xs ++ x ∷ []) (Some k)
least_next xs n x k is least = elim (cases_lt x n) [
  | inl less ↦ at x (let e : k ≡ x = omega (arith, is, less) in e) ((among_push x xs x).1 (inr refl)) (let le : x ≤ n = omega (arith, less) in le) (let le : x ≤ x = omega arith in le)
  | inr past ↦ at n (let e : k ≡ n = omega (arith, is, past) in e) (among_left n xs (x ∷ []) least.0) (let le : n ≤ n = omega arith in le) (let le : n ≤ x = omega (arith, past) in le)
]
  where
    at : (l : ℕ) → k ≡ l → IsAmong l (xs ++ x ∷ []) → l ≤ n → l ≤ x → IsLeastOf (xs ++ x ∷ []) (Some k)
    at l same among below_all below = subst (λ (j : ℕ). IsLeastOf (xs ++ x ∷ []) (Some j)) (sym same)
        (among, all_push (λ j. l ≤ j) xs x (all_weaker (λ j. n ≤ j) (λ j. l ≤ j) (λ j h. omega (arith, h, below_all)) xs least.1) below)
