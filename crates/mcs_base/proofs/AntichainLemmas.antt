-- What holds of antichains, and of the loop that looks for a member within a set.
use Rattle.std.proofs.Common.{◌≡◌, ℕ, ◌+◌, ◌<◌, Bool, true, false, not, cond, List, [], ◌∷◌, ◌++◌, ◌⊎◌, ◌↔◌, inl, inr, length, get_or, drop, filter, refl, sym, ◌∙◌, subst, true≢false, arith}
use Rattle.std.proofs.lemmas.Bool.Decides.{nat_tests}
use Rattle.std.proofs.lemmas.List.{drop_more}
use Rattle.std.specs.List.{AllByRecursion}
use Rattle.mcs_sets.specs.Sets.{common, Within}
use Rattle.mcs_sets.proofs.SetLemmas.{within_where_common, common_where_within}
use Rattle.mcs_base.specs.Listings.{IsAmong}
use Rattle.mcs_base.specs.Antichains.{IsAntichain, HasOneWithin, lies_within, not_containing}
use Rattle.mcs_base.proofs.Among.{filter_among}
use Rattle.mcs_base.proofs.Each.{all_from_among, all_filter, all_push}

-- the test and what it tests
pub lies_within-is : (a b : ℕ) → (lies_within a b ≡ true) ↔ Within a b
lies_within-is a b = (
  λ e. let same : common a b ≡ a = grind (arith, nat_tests) in within_where_common a b same,
  λ within. let same = common_where_within a b within in grind (arith, nat_tests),
)

-- what a closure answers that asks whether a set does not contain m
pub answers_not : (a b : ℕ) (inside : Bool) → (inside ≡ true) ↔ Within a b → not inside ≡ not (lies_within a b)
answers_not a b true known = let e : lies_within a b ≡ true = (lies_within-is a b).1 (known.0 refl) in rw e refl
answers_not a b false known = at (lies_within a b) refl
  where
    at : (v : Bool) → lies_within a b ≡ v → true ≡ not v
    at true e = absurd (true≢false (sym (known.1 ((lies_within-is a b).0 e))))
    at false e = refl

-- ---- the loop
pub one_within-here : (xs : List ℕ) (m i x : ℕ) → i < length xs → x ≡ get_or xs i x → Within x m → HasOneWithin (drop i xs) m
one_within-here xs m i x less is within = rw (drop_more xs i x less) (record { inner = x; among = inl is; within = within })

pub one_within-later : (xs : List ℕ) (m i x : ℕ) → i < length xs → x ≡ get_or xs i x → ¬ Within x m → HasOneWithin (drop i xs) m ↔ HasOneWithin (drop (i + 1) xs) m
one_within-later xs m i x less is not = rw (drop_more xs i x less) (
  λ h. at h.inner h.within h.among,
  λ h. record { inner = h.inner; among = inr h.among; within = h.within },
)
  where
    at : (y : ℕ) → Within y m → (y ≡ get_or xs i x) ⊎ IsAmong y (drop (i + 1) xs) → HasOneWithin (drop (i + 1) xs) m
    at y within (inl e) = absurd (not (subst (λ (z : ℕ). Within z m) (e ∙ sym is) within))
    at y within (inr among) = record { inner = y; among = among; within = within }

pub one_within-none : (m : ℕ) → ¬ HasOneWithin [] m
one_within-none m h = h.among

-- ---- what is left, with m at its end, is an antichain again
antichain-filter : (p : ℕ → Bool) (xs : List ℕ) → IsAntichain xs → IsAntichain (filter p xs)
antichain-filter p [] apart = tt
antichain-filter p (x ∷ xs) apart = at (p x) (antichain-filter p xs apart.1)
  where
    at : (b : Bool) → IsAntichain (filter p xs) → IsAntichain (cond b (x ∷ filter p xs) (filter p xs))
    at true rest = (all_filter _ p xs apart.0, rest)
    at false rest = rest

antichain-push : (xs : List ℕ) (m : ℕ) → IsAntichain xs → AllByRecursion (λ x. (¬ Within x m) × (¬ Within m x)) xs → IsAntichain (xs ++ m ∷ [])
antichain-push [] m apart others = (tt, tt)
antichain-push (x ∷ xs) m apart others = (all_push _ xs m apart.0 others.0, antichain-push xs m apart.1 others.1)

pub antichain-insert : (xs : List ℕ) (m : ℕ) → IsAntichain xs → ¬ HasOneWithin xs m → IsAntichain (not_containing m xs ++ m ∷ [])
antichain-insert xs m apart none = antichain-push (not_containing m xs) m (antichain-filter _ xs apart) (all_from_among _ (not_containing m xs) (λ x among. let (there, passes) = filter_among _ x xs among in (
  λ within. none (record { inner = x; among = there; within = within }),
  λ within. let e = (lies_within-is m x).1 within in true≢false (sym (rw e at passes)),
)))
