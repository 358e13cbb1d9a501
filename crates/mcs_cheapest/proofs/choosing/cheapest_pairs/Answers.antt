use Rattle.std.proofs.Common.{Option, ℕ, sym, subst}
use Rattle.mcs_sets.specs.Orders.{PairBefore}
use Rattle.mcs_base.specs.Listings.{IsListing}
use Rattle.mcs_base.proofs.ListingLemmas.{IsListing-nil}
use Rattle.mcs_costs.specs.Costs.{cost}
use Rattle.mcs_cheapest.specs.Searching.{CostsLeast}
use Rattle.mcs_cheapest.proofs.choosing.cheapest_pairs.Goals as goal

pub returns-in-None : goal.returns-in-None
returns-in-None c = subst (IsListing _ PairBefore) (sym c.new.ensures.items) (IsListing-nil PairBefore _ (λ p h. subst (λ (o : Option ℕ). CostsLeast o (cost c.args.system.now p)) c.in-None.is h.1))

pub of_cost-requires : goal.of_cost-requires
of_cost-requires c = rw c.deref.ensures.value c.requires

pub returns-in-Some : goal.returns-in-Some
returns-in-Some c = rw (c.in-Some.is, ← c.deref.ensures.value) c.of_cost.ensures
