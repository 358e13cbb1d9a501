-- The cheapest diagnoses have one listing, and one cost.
use Rattle.std.proofs.Common.{ℕ, ◌*◌, length, Some, None, refl, sym, ap, subst, inl, inr, arith}
use Rattle.mcs_sets.specs.Orders.{PairBefore}
use Rattle.mcs_sets.proofs.SetLemmas.{PairBefore-asymmetric}
use Rattle.mcs_base.specs.Listings.{IsListing}
use Rattle.mcs_base.proofs.Each.{all_from_among}
use Rattle.mcs_base.proofs.ListingLemmas.{decided_listed, same_listing}
use Rattle.mcs_system.specs.Repairs.{IsDiagnosis}
use Rattle.mcs_system.proofs.MarkLemmas.{allowed_known, marks_small}
use Rattle.mcs_existence.proofs.SystemListings.{all_states_listed}
use Rattle.mcs_diagnosis.specs.Diagnoses.{pairs_of}
use Rattle.mcs_diagnosis.proofs.ShownLemmas.{shown_are_one, shown_exist}
use Rattle.mcs_costs.specs.Costs.{cost, IsCheapest}
use Rattle.mcs_costs.proofs.ExistLemmas.{cases_cheapest, cases_some, cheapest_exists}
use Rattle.mcs_cheapest.specs.Laws.{CheapestAreListed, CheapestAreOne, LeastCostsExist, LeastCostsAreOne}

-- ---- there is one of each
pub cheapest_exist : CheapestAreListed
cheapest_exist m =
    let (pairs, listing) = decided_listed (IsCheapest m) (2 * length m.bridges) (cases_cheapest m) (λ d c. marks_small m d (allowed_known m d c.one.allowed)) in
    let (ds, are, shown) = shown_exist m (λ pair. all_states_listed m _ _) pairs (all_from_among (IsDiagnosis m) pairs (λ p among. ((listing.exactly p).0 among).one)) in
    (ds, record { listed = subst (IsListing (IsCheapest m) PairBefore) (sym are) listing; shown = shown })

pub least_cost_exists : LeastCostsExist
least_cost_exists m = elim (cases_some m) [
  | inr none ↦ (None, none)
  | inl (d, is) ↦ let (best, cheapest) = cheapest_exists m d is in (Some (cost m best), (best, cheapest, refl))
]

-- ---- there are no two
pub cheapest_are_one : CheapestAreOne
cheapest_are_one m ds es a b = shown_are_one m ds es (same_listing PairBefore PairBefore-asymmetric (IsCheapest m) (pairs_of ds) (pairs_of es) a.listed b.listed) a.shown b.shown

pub least_cost_is_one : LeastCostsAreOne
least_cost_is_one m None None a b = refl
least_cost_is_one m None (Some price) a (p, cheapest, is) = absurd (a p cheapest.one)
least_cost_is_one m (Some price) None (p, cheapest, is) b = absurd (b p cheapest.one)
least_cost_is_one m (Some price) (Some other) (p, cheapest, is) (q, cheapest', is') = ap (λ (n : ℕ). Some n) (let le = cheapest.least q cheapest'.one in let ge = cheapest'.least p cheapest.one in omega (arith, is, is', le, ge))
