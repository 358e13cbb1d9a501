-- Where all sets of the rules were reached, no further change reaches another one.
use Rattle.std.proofs.Common.{ℕ, ◌≤◌, ◌<◌, ◌^◌, List, ◌∷◌, length, sym, subst, inl, inr, arith}
use Rattle.mcs_sets.specs.Sets.{size, Within}
use Rattle.mcs_base.specs.Listings.{IsAmong, IsListing}
use Rattle.mcs_base.proofs.Among.{cases_among}
use Rattle.mcs_base.proofs.Distinct.{ascending_distinct}
use Rattle.mcs_import.specs.Near.{IsNear}
use Rattle.mcs_import.proofs.CountLemmas.{few_within}

module _ (rules removable forcible : ℕ) (sets : List ℕ) where
  -- so many of them are all
  all_there : (n : ℕ) (reached : List ℕ) → IsListing (IsNear rules removable forcible sets n) (λ a b. a < b) reached → 2 ^ size rules ≤ length reached → (x : ℕ) → Within x rules → IsAmong x reached
  all_there n reached listing many x of_rules = elim (cases_among x reached) [
    | inl here ↦ here
    | inr new ↦ absurd (let few = few_within rules (x ∷ reached) (new, ascending_distinct reached listing.ascending) inside in omega (arith, few, many))
  ]
    where
      inside : (y : ℕ) → IsAmong y (x ∷ reached) → Within y rules
      inside y (inl same) = subst (λ (z : ℕ). Within z rules) (sym same) of_rules
      inside y (inr among) = ((listing.exactly y).0 among).of_rules

  pub all_near : (n m : ℕ) → n ≤ m → (reached : List ℕ) → IsListing (IsNear rules removable forcible sets n) (λ a b. a < b) reached → 2 ^ size rules ≤ length reached
      → IsListing (IsNear rules removable forcible sets m) (λ a b. a < b) reached
  all_near n m less reached listing many = record {
    exactly = λ x. (λ among. further x ((listing.exactly x).0 among), λ near. all_there n reached listing many x near.of_rules);
    ascending = listing.ascending;
  }
    where
      further : (x : ℕ) → IsNear rules removable forcible sets n x → IsNear rules removable forcible sets m x
      further x h = record { of_rules = h.of_rules; set = h.set; listed = h.listed; removed = h.removed; forced = h.forced; near = omega (arith, less, h.near) }
