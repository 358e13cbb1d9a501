use Rattle.std.proofs.Common.{◌<◌, ◌∙◌, ℕ, sym, subst}
use Rattle.std.proofs.lemmas.Result.{IfOk-weaker}
use Rattle.std.specs.List.{AllByRecursion}
use Rattle.mcs_sets.specs.Sets.{Within}
use Rattle.mcs_base.specs.Listings.{IsListing}
use Rattle.mcs_import.specs.Near.{IsNear}
use Rattle.mcs_import.specs.States.{IsAskedInState}
use Rattle.mcs_import.proofs.StateLemmas.{lists}
use Rattle.mcs_import.proofs.QuestionLemmas.{asked_listed, applying_within}
use Rattle.mcs_import.proofs.question.asked.Goals as goal

pub near_sets-requires-clause-of_rules : goal.near_sets-requires-clause-of_rules
near_sets-requires-clause-of_rules c =
    subst (λ (rules : ℕ). AllByRecursion (λ s. Within s rules) c.in_ok-sets.sets.items) (sym c.rules_of.ensures)
    (applying_within c.args.system.now c.args.i c.deref.result.now c.in_ok-sets.sets.items c.in_ok-sets.ensures.exactly)

pub returns : goal.returns
returns c =
    IfOk-weaker c.near_sets.result (λ near. IsListing (IsNear c.rules_of.result c.removed.result c.forced.result c.in_ok-sets.sets.items c.args.level) (λ (a b : ℕ). a < b) near.items)
    (λ near. IsListing (IsAskedInState c.args.system.now c.args.i (lists c.args.supplies.now) c.args.guesses c.args.level) (λ (a b : ℕ). a < b) near.items)
    (λ near listing. asked_listed c.args.system.now c.args.i (lists c.args.supplies.now) c.inputs_of.result c.args.guesses c.rules_of.result c.args.level c.removed.result c.forced.result c.new-allowed.result
    c.inputs_of.ensures c.rules_of.ensures c.removed.ensures c.forced.ensures (c.new-allowed.ensures ∙ c.allowed.ensures)
    c.in_ok-joined.joined.items c.in_ok-states.states.items c.deref.result.now c.in_ok-sets.sets.items near.items
    c.in_ok-joined.ensures c.in_ok-states.ensures c.deref.ensures.value c.in_ok-sets.ensures.exactly listing)
    c.near_sets.ensures
