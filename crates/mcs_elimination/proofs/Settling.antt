-- What the bound at a level tells of the cheapest diagnoses.
use Rattle.std.proofs.Common.{◌≡◌, ℕ, ◌+◌, ◌*◌, ◌<◌, ◌≤◌, List, [], ◌∷◌, length, Option, Some, None, is_some, true, false, true≢false, refl, sym, ap, subst, inl, inr, ◌⊎◌, arith}
use Rattle.std.proofs.lemmas.List.{length-map}
use Rattle.std.specs.List.{AllByRecursion}
use Rattle.mcs_sets.specs.Orders.{PairBefore}
use Rattle.mcs_base.specs.Least.{IsLeastOf}
use Rattle.mcs_base.specs.Listings.{IsListing}
use Rattle.mcs_base.proofs.Each.{all_weaker}
use Rattle.mcs_base.proofs.LeastLemmas.{least_is_one}
use Rattle.mcs_base.proofs.ListingLemmas.{IsListing-same}
use Rattle.mcs_system.specs.Plain.{Bridge, System}
use Rattle.mcs_costs.specs.Costs.{cost, weights, AreCheapest, IsCheapest, SettlesNone}
use Rattle.mcs_costs.proofs.ExistLemmas.{cheapest_exists}
use Rattle.mcs_elimination.specs.CheapestRows.{IsBelow}
use Rattle.mcs_elimination.specs.Eliminating.{AreDear, IsCostBound}
use Rattle.mcs_elimination.specs.Lightest.{IsBoundAt, least_cost_above}
use Rattle.mcs_elimination.proofs.Above.{bound_reached, least_in_bound}

pub no_rules : (m : System) (level : ℕ) → IsLeastOf (weights m) None → length m.bridges ≤ level
no_rules m level none =
    let many : length (weights m) ≡ length m.bridges = length-map m.bridges (λ (b : Bridge). b.weight) in
    let no : length (weights m) ≡ 0 = ap length none in
    omega (arith, many, no)

-- what costs less, and has no rule's both marks, has at most so many marks
pub is_cost_bound : (m : System) (level : ℕ) (below : Option ℕ) → IsBoundAt m level below → IsCostBound m level below
is_cost_bound m level None all = all
is_cost_bound m level (Some bound) (low, (least, is_least, is)) = λ p within one more. let reached = bound_reached m level least is_least p within one more in omega (arith, reached, is)

-- ---- dear marks
pub none_dear : (m : System) (level : ℕ) → AreDear m level []
none_dear m level below is = tt

-- there is one bound
pub reaching_dear : (m : System) (level bound : ℕ) (sets : List ℕ) → IsBoundAt m level (Some bound) → AllByRecursion (λ s. bound ≤ cost m s) sets → AreDear m level sets
reaching_dear m level bound sets (low, (least, is_least, is)) all None past = absurd (omega (arith, low, past))
reaching_dear m level bound sets (low, (least, is_least, is)) all (Some other) (low', (least', is_least', is')) =
    let one = least_is_one (weights m) least least' is_least is_least' in
    let same = ap (least_cost_above m level) one in
    all_weaker (λ s. bound ≤ cost m s) (λ s. ¬ (cost m s < other)) (λ s reached less. omega (arith, reached, less, is, is', same)) sets all

-- ---- what is told
-- what is below the bound are all cheapest ones, where there is no bound, or where there are some
pub are_cheapest : (m : System) (below : Option ℕ) (pairs : List ℕ) → (is_some below ≡ false) ⊎ (¬ (length pairs ≡ 0)) → IsListing (λ p. IsCheapest m p × IsBelow below (cost m p)) PairBefore pairs → AreCheapest m pairs
are_cheapest m None pairs some listed = IsListing-same PairBefore (λ p. IsCheapest m p × IsBelow None (cost m p)) (IsCheapest m) pairs (λ p. (λ h. h.0, λ h. (h, tt))) listed
are_cheapest m (Some bound) [] some listed = elim some [ inl none ↦ absurd (true≢false none) | inr other ↦ absurd (other refl) ]
are_cheapest m (Some bound) (x ∷ xs) some listed =
    let (c, cheap) = (listed.exactly x).0 (inl refl) in
    IsListing-same PairBefore (λ p. IsCheapest m p × IsBelow (Some bound) (cost m p)) (IsCheapest m) (x ∷ xs) (λ p. (λ h. h.0, λ h. (h, (let least = h.least x c.one in omega (arith, least, cheap))))) listed

-- where none is below a bound, the level settles none
pub settles_none : (m : System) (level : ℕ) (below : Option ℕ) (pairs : List ℕ) → IsBoundAt m level below → is_some below ≡ true → length pairs ≡ 0 → IsListing (λ p. IsCheapest m p × IsBelow below (cost m p)) PairBefore pairs → SettlesNone m level
settles_none m level None pairs is some none listed = absurd (true≢false (sym some))
settles_none m level (Some bound) (x ∷ xs) is some none listed = absurd (omega (arith, none))
settles_none m level (Some bound) [] (low, (least, is_least, is)) some none listed = λ p diagnosis settled. elim settled [
  | inl (weight, is_weight, cheap) ↦
      let (best, c) = cheapest_exists m p diagnosis in
      let less = subst (λ (w : ℕ). cost m p < (level + 1) * w) (least_is_one (weights m) weight least is_weight is_least) cheap in
      let cheaper = c.least p diagnosis in
      (listed.exactly best).1 (c, omega (arith, cheaper, less, is, least_in_bound m level least))
  | inr all ↦ omega (arith, low, all)
]
