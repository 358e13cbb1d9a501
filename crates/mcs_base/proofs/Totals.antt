-- Sums over the members of a set: of more members they are no less, and of two sets apart they add up.
use Rattle.std.proofs.Common.{◌≡◌, ℕ, ◌+◌, ◌*◌, ◌^◌, ◌<◌, ◌≤◌, zero, suc, Bool, true, false, ◌||◌, cond, List, [], ◌∷◌, length, refl, sym, ap, ◌∙◌, inl, inr, arith, true≢false}
use Rattle.std.proofs.lemmas.Bool.{false_from_ne_true}
use Rattle.std.proofs.lemmas.Bool.Decides.{nat_tests}
use Rattle.std.proofs.lemmas.List.Sums.{sum_by-cons}
use Rattle.std.specs.List.{sum_by}
use Rattle.mcs_sets.specs.Sets.{has, single, union, minus, members, members_from, Within, Meets}
use Rattle.mcs_sets.proofs.SetLemmas.{below_power, has-minus, has-single, has-union, members-empty, members-least, members-width, union-lt, Within-le}
use Rattle.mcs_sets.proofs.Lattice.{has-single_itself, minus_itself, minus-union_back, single_within}
use Rattle.mcs_base.specs.Listings.{IsAmong}

-- the sum over those of w numbers from i on that pass a test
unfoldable pub total_from : (ℕ → ℕ) → ℕ → ℕ → (ℕ → Bool) → ℕ
total_from f i zero p = 0
total_from f i (suc w) p = cond (p i) (f i) 0 + total_from f (i + 1) w p

module _ (f : ℕ → ℕ) where
  sum-members_from : (w i s : ℕ) → sum_by f (members_from i w s) ≡ total_from f i w (has s)
  unfolding members_from total_from
  sum-members_from zero i s = refl
  sum-members_from (suc w) i s = at (has s i) (sum-members_from w (i + 1) s)
    where
      at : (b : Bool) → sum_by f (members_from (i + 1) w s) ≡ total_from f (i + 1) w (has s) → sum_by f (cond b (i ∷ members_from (i + 1) w s) (members_from (i + 1) w s)) ≡ cond b (f i) 0 + total_from f (i + 1) w (has s)
      at true rest = omega (arith, rest, sum_by-cons f i (members_from (i + 1) w s))
      at false rest = omega (arith, rest)

  sum_members : (s n : ℕ) → s < 2 ^ n → sum_by f (members s) ≡ total_from f 0 n (has s)
  sum_members s n small = ap (sum_by f) (members-width s n small) ∙ sum-members_from n 0 s

  total_le : (p q : ℕ → Bool) → ((k : ℕ) → p k ≡ true → q k ≡ true) → (w i : ℕ) → total_from f i w p ≤ total_from f i w q
  unfolding total_from
  total_le p q le zero i = omega arith
  total_le p q le (suc w) i = at (p i) refl (q i) refl (total_le p q le w (i + 1))
    where
      at : (u : Bool) → p i ≡ u → (v : Bool) → q i ≡ v → total_from f (i + 1) w p ≤ total_from f (i + 1) w q → cond u (f i) 0 + total_from f (i + 1) w p ≤ cond v (f i) 0 + total_from f (i + 1) w q
      at true e true e' rest = omega (arith, rest)
      at true e false e' rest = absurd (true≢false (sym (le i e) ∙ e'))
      at false e true e' rest = omega (arith, rest)
      at false e false e' rest = omega (arith, rest)

  -- a set within another one has no greater sum
  pub sum_within : (a b : ℕ) → Within a b → sum_by f (members a) ≤ sum_by f (members b)
  sum_within a b within =
      let small : a < 2 ^ b = omega (arith, Within-le a b within, below_power b) in
      omega (arith, sum_members a b small, sum_members b b (below_power b), total_le (has a) (has b) within b 0)

  total_union : (p q r : ℕ → Bool) → ((k : ℕ) → r k ≡ (p k || q k)) → ((k : ℕ) → p k ≡ true → q k ≡ false) → (w i : ℕ) → total_from f i w r ≡ total_from f i w p + total_from f i w q
  unfolding total_from
  total_union p q r is apart zero i = omega arith
  total_union p q r is apart (suc w) i = at (p i) refl (q i) refl (r i) (is i) (total_union p q r is apart w (i + 1))
    where
      at : (u : Bool) → p i ≡ u → (v : Bool) → q i ≡ v → (t : Bool) → t ≡ (p i || q i) → total_from f (i + 1) w r ≡ total_from f (i + 1) w p + total_from f (i + 1) w q
          → cond t (f i) 0 + total_from f (i + 1) w r ≡ (cond u (f i) 0 + total_from f (i + 1) w p) + (cond v (f i) 0 + total_from f (i + 1) w q)
      at true e true e' t known rest = absurd (true≢false (sym e' ∙ apart i e))
      at true e false e' true known rest = omega (arith, rest)
      at true e false e' false known rest = absurd (true≢false (sym (known ∙ rw e refl)))
      at false e true e' true known rest = omega (arith, rest)
      at false e true e' false known rest = absurd (true≢false (sym (known ∙ rw (e, e') refl)))
      at false e false e' true known rest = absurd (true≢false (known ∙ rw (e, e') refl))
      at false e false e' false known rest = omega (arith, rest)

  -- the sums of two sets with no member in common add up
  pub sum-union_apart : (a b : ℕ) → ¬ Meets a b → sum_by f (members (union a b)) ≡ sum_by f (members a) + sum_by f (members b)
  sum-union_apart a b apart =
      let n : ℕ = a + b in
      let small_a : a < 2 ^ n = omega (arith, below_power n) in
      let small_b : b < 2 ^ n = omega (arith, below_power n) in
      omega (
        arith,
        sum_members a n small_a,
        sum_members b n small_b,
        sum_members (union a b) n (union-lt n a b small_a small_b),
        total_union (has a) (has b) (has (union a b)) (has-union a b) (λ k is. false_from_ne_true _ (λ h. apart (record { member = k; in_first = is; in_second = h }))) n 0,
      )

  pub sum-none : sum_by f (members 0) ≡ 0
  sum-none = ap (sum_by f) members-empty

  members-single : (k : ℕ) → members (single k) ≡ k ∷ []
  members-single k = members-least (single k) k (record { in_set = has-single_itself k; none_below = λ j less. grind (arith, nat_tests, has-single) }) ∙ ap (λ s. k ∷ members s) (minus_itself (single k)) ∙ ap (λ ks. k ∷ ks) members-empty

  pub sum-single : (k : ℕ) → sum_by f (members (single k)) ≡ f k
  sum-single k = ap (sum_by f) (members-single k) ∙ (let one = sum_by-cons f k [] in omega (arith, one))

  -- one member less
  pub sum-without : (s k : ℕ) → has s k ≡ true → sum_by f (members s) ≡ sum_by f (members (minus s (single k))) + f k
  sum-without s k is = ap (λ t. sum_by f (members t)) (sym (minus-union_back s (single k) (single_within k s is)))
      ∙ sum-union_apart (minus s (single k)) (single k) (λ meets. grind (arith, has-minus s (single k) meets.member, meets.in_first, meets.in_second))
      ∙ ap (λ n. sum_by f (members (minus s (single k))) + n) (sum-single k)

-- where each number is at least w, the sum is at least as many times w
pub sum_at_least : (f : ℕ → ℕ) (w : ℕ) (xs : List ℕ) → ((k : ℕ) → IsAmong k xs → w ≤ f k) → length xs * w ≤ sum_by f xs
sum_at_least f w [] least = omega arith
sum_at_least f w (x ∷ xs) least =
    let here = least x (inl refl) in
    let rest = sum_at_least f w xs (λ k h. least k (inr h)) in
    let step : suc (length xs) * w ≡ length xs * w + w = omega arith in
    omega (arith, here, rest, step, sum_by-cons f x xs)

-- where each is at most w, it is at most as many times w
pub sum_at_most : (f : ℕ → ℕ) (w : ℕ) (xs : List ℕ) → ((k : ℕ) → IsAmong k xs → f k ≤ w) → sum_by f xs ≤ length xs * w
sum_at_most f w [] most = omega arith
sum_at_most f w (x ∷ xs) most =
    let here = most x (inl refl) in
    let rest = sum_at_most f w xs (λ k h. most k (inr h)) in
    let step : suc (length xs) * w ≡ length xs * w + w = omega arith in
    omega (arith, here, rest, step, sum_by-cons f x xs)
