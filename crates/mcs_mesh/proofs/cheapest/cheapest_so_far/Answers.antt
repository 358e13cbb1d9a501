use Rattle.std.proofs.Common.{◌≡◌, List, ℕ, sym, subst}
use Rattle.std.proofs.lemmas.Result.{IfOk-weaker}
use Rattle.mcs_sets.specs.Orders.{PairBefore}
use Rattle.mcs_base.specs.Listings.{IsAmong, IsListing}
use Rattle.mcs_costs.specs.Costs.{cost}
use Rattle.mcs_costs.specs.Settling.{AreDiagnosesUpTo}
use Rattle.mcs_mesh.proofs.FoundLemmas.{few_are_diagnoses, few_are_pairs, marks_of_diagnoses, some_are_diagnoses}
use Rattle.mcs_mesh.proofs.cheapest.cheapest_so_far.Goals as goal

pub least_cost-requires : goal.least_cost-requires
least_cost-requires c =
    let (found, all) = c.requires in
    rw c.deref.ensures.value (marks_of_diagnoses c.args.system.now c.args.level c.in_ok-few.few.items (few_are_diagnoses c.args.system.now c.args.level found c.args.pairs.now c.in_ok-few.few.items all c.in_ok-few.ensures))

pub of_cost-requires : goal.of_cost-requires
of_cost-requires c =
    let (found, all) = c.requires in
    rw c.deref-in-Some.ensures.value (few_are_pairs c.args.system.now c.args.level found c.args.pairs.now c.in_ok-few.few.items all c.in_ok-few.ensures)

pub returns-in-Some : goal.returns-in-Some
returns-in-Some c =
    let (found, all) = c.requires in
    let m = c.args.system.now in
    let few = c.in_ok-few.few.items in
    let are = few_are_diagnoses m c.args.level found c.args.pairs.now few all c.in_ok-few.ensures in
    IfOk-weaker c.of_cost.result (λ kept. IsListing (λ p. IsAmong p c.deref-in-Some.result.now × (c.in-Some.least ≡ cost m p)) PairBefore kept.items) (λ so_far. AreDiagnosesUpTo m c.args.level so_far.items)
    (λ kept listed. some_are_diagnoses m c.args.level c.in-Some.least few kept.items are (subst (λ (xs : List ℕ). IsListing (λ p. IsAmong p xs × (c.in-Some.least ≡ cost m p)) PairBefore kept.items) c.deref-in-Some.ensures.value listed)) c.of_cost.ensures

pub returns-in-None : goal.returns-in-None
returns-in-None c =
    let (found, all) = c.requires in
    few_are_diagnoses c.args.system.now c.args.level found c.args.pairs.now c.in_ok-few.few.items all c.in_ok-few.ensures
