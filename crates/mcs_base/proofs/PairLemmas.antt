-- The two parts of a pair.
use Rattle.std.proofs.Common.{◌≡◌, ℕ, ◌+◌, ◌*◌, ◌^◌, ◌<◌, Bool, true, false, ◌&&◌, ltb, refl, sym, ◌∙◌, add-zero, arith}
use Rattle.std.proofs.lemmas.Bool.Decides.{nat_tests}
use Rattle.mcs_sets.specs.Sets.{has, such_that}
use Rattle.mcs_sets.proofs.SetLemmas.{same_set, has-empty, has-such_that, members_below, below_power}
use Rattle.mcs_base.specs.Pairs.{removed_of, forced_of}
pub use Rattle.mcs_sets.proofs.SetLemmas.{such_that_steps as loops}

-- below a bound that the mark's presence gives, the test alone decides
module _ (pair n r mark : ℕ) (below : has pair mark ≡ true → r < n) where
  pub bound-free : (ltb r n && has pair mark) ≡ has pair mark
  bound-free = at (has pair mark) refl
    where
      at : (b : Bool) → has pair mark ≡ b → (ltb r n && has pair mark) ≡ has pair mark
      at true is = let less : r < n = below is in grind (arith, nat_tests)
      at false is = grind (arith, nat_tests)

pub has-removed_of : (pair r : ℕ) → has (removed_of pair) r ≡ has pair (2 * r)
unfolding removed_of
has-removed_of pair r = has-such_that pair _ r ∙ bound-free pair pair r (2 * r) (λ is. let low : 2 * r < pair = members_below pair pair (2 * r) (below_power pair) is in omega arith)

pub has-forced_of : (pair r : ℕ) → has (forced_of pair) r ≡ has pair (2 * r + 1)
unfolding forced_of
has-forced_of pair r = has-such_that pair _ r ∙ bound-free pair pair r (2 * r + 1) (λ is. let low : 2 * r + 1 < pair = members_below pair pair (2 * r + 1) (below_power pair) is in omega arith)

-- where the marks are those of n rules, it is enough to look at these
module _ (n pair : ℕ) (small : pair < 2 ^ (2 * n)) where
  pub removed-of_rules : such_that n (λ r. has pair (2 * r)) ≡ removed_of pair
  removed-of_rules = same_set _ _ (λ r. has-such_that n _ r ∙ bound-free pair n r (2 * r) (λ is. let low : 2 * r < 2 * n = members_below pair (2 * n) (2 * r) small is in omega arith) ∙ sym (has-removed_of pair r))

  pub forced-of_rules : such_that n (λ r. has pair (2 * r + 1)) ≡ forced_of pair
  forced-of_rules = same_set _ _ (λ r. has-such_that n _ r ∙ bound-free pair n r (2 * r + 1) (λ is. let low : 2 * r + 1 < 2 * n = members_below pair (2 * n) (2 * r + 1) small is in omega arith) ∙ sym (has-forced_of pair r))

pub removed_from : (pair : ℕ) → pair < 2 ^ 128 → such_that 64 (λ r. has pair (2 * r + 0)) ≡ removed_of pair
removed_from pair small = same_set _ _ (λ r. has-such_that 64 _ r ∙ rw add-zero refl ∙ sym (has-such_that 64 _ r)) ∙ removed-of_rules 64 pair small

-- ---- no marks
pub removed_of-none : removed_of 0 ≡ 0
removed_of-none = same_set _ _ (λ r. has-removed_of 0 r ∙ has-empty (2 * r) ∙ sym (has-empty r))

pub forced_of-none : forced_of 0 ≡ 0
forced_of-none = same_set _ _ (λ r. has-forced_of 0 r ∙ has-empty (2 * r + 1) ∙ sym (has-empty r))
