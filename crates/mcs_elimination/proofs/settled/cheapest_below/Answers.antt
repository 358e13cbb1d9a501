use Rattle.std.proofs.Common.{◌≡◌, [], map, refl, subst}
use Rattle.std.proofs.lemmas.Result.{IfOk-weaker}
use Rattle.mcs_sets.specs.Orders.{PairBefore}
use Rattle.mcs_base.specs.Least.{IsLeastOf}
use Rattle.mcs_base.specs.Listings.{IsAmong, IsListing}
use Rattle.mcs_costs.specs.Costs.{cost, IsCheapest}
use Rattle.mcs_elimination.specs.CheapestRows.{IsBelow}
use Rattle.mcs_elimination.proofs.Choosing.{are_pairs, none_below, none_listed, of_least_cost}
use Rattle.mcs_elimination.proofs.settled.cheapest_below.Goals as goal

pub least_cost-requires : goal.least_cost-requires
least_cost-requires c = (are_pairs c.args.system.now c.args.level c.args.pairs.now c.requires.pairs).marks

pub returns-in_default : goal.returns-in_default
returns-in_default c =
    let m = c.args.system.now in
    let none = subst (IsLeastOf (map (cost m) c.args.pairs.now)) c.in_default.is (c.least_cost.ensures [] refl) in
    none_listed m c.args.level c.args.pairs.now c.requires.pairs c.bridges-bridges.ensures.valid c.args.below c.requires.bound c.new.result.items c.new.ensures.items none

pub returns-then-not-is_below : goal.returns-then-not-is_below
returns-then-not-is_below c =
    let m = c.args.system.now in
    let least = subst (IsLeastOf (map (cost m) c.args.pairs.now)) c.in-Some.is (c.least_cost.ensures [] refl) in
    none_below m c.args.level c.args.pairs.now c.requires.pairs c.bridges-bridges.ensures.valid c.args.below c.requires.bound c.in-Some.least least c.new-then-not-is_below.result.items c.new-then-not-is_below.ensures.items (c.is_below.ensures.no c.if-not-is_below.true)

pub of_cost-requires : goal.of_cost-requires
of_cost-requires c = are_pairs c.args.system.now c.args.level c.args.pairs.now c.requires.pairs

pub returns : goal.returns
returns c =
    let m = c.args.system.now in
    let least = subst (IsLeastOf (map (cost m) c.args.pairs.now)) c.in-Some.is (c.least_cost.ensures [] refl) in
    IfOk-weaker c.of_cost.result (λ kept. IsListing (λ p. IsAmong p c.args.pairs.now × (c.in-Some.least ≡ cost m p)) PairBefore kept.items) (λ kept. IsListing (λ p. IsCheapest m p × IsBelow c.args.below (cost m p)) PairBefore kept.items) (λ kept. of_least_cost m c.args.level c.args.pairs.now c.requires.pairs c.bridges-bridges.ensures.valid c.args.below c.requires.bound c.in-Some.least least (c.is_below.ensures.yes c.if-not-is_below.false) kept.items) c.of_cost.ensures
