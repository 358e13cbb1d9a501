use Rattle.std.proofs.Common.{◌≡◌, ◌∙◌, ◌+◌, max, sym, subst, arith}
use Rattle.std.specs.List.{AllByRecursion}
use Rattle.mcs_system.specs.Plain.{System}
use Rattle.mcs_diagnosis.specs.Diagnoses.{ShowsFirstState}
use Rattle.mcs_costs.specs.Costs.{IsStopLevel}
use Rattle.mcs_costs.specs.Settling.{AreDiagnosesUpTo}
use Rattle.mcs_cheapest.specs.Found.{IsLeastCost}
use Rattle.mcs_cheapest.specs.Least.{IsAsking}
use Rattle.mcs_cheapest.proofs.FoundLemmas.{search_told}
use Rattle.mcs_cheapest.proofs.LeastLemmas.{asked_all, cheapest_few_marks, cheapest_shown, stop_up_to, told_to, told_up_to}
use Rattle.mcs_cheapest.proofs.SearchLemmas.{searches_cut}
use Rattle.mcs_cheapest.proofs.least.list_least.Goals as goal

pub show_each-requires : goal.show_each-requires
show_each-requires g c =
    let told = c.in_ok-pairs.field-0 in
    let before = subst (λ (m : System). AllByRecursion (ShowsFirstState m) told.shown.items) c.requires.same c.in_ok-pairs.ensures.found.1 in
    rw c.deref.ensures.value (rw c.deref-2.ensures.value (cheapest_shown _ _ told.level told.pairs.items told.shown.items c.args.system.now c.requires.same c.in_ok-pairs.ensures.found.0 before))

pub returns-in_err-found : goal.returns-in_err-found
returns-in_err-found g c =
    let first = g.E.Evaluator.stands c.args.evaluator.now in
    let told = c.in_ok-pairs.field-0 in
    let few : AreDiagnosesUpTo c.args.system.now told.level c.deref.result.now = rw c.deref.ensures.value (cheapest_few_marks _ _ told.level told.pairs.items c.args.system.now c.requires.same c.in_ok-pairs.ensures.found.0) in
    let taken = c.in_err-found.ensures first told.level c.in_ok-pairs.ensures.found.0.told.asking few in
    searches_cut _ _ _ _ _ c.from_residual-in_err-found.ensures.1 taken.stop taken.rest

pub take_rest-requires : goal.take_rest-requires
take_rest-requires g c =
    let first = g.E.Evaluator.stands c.args.evaluator.now in
    let told = c.in_ok-pairs.field-0 in
    let few : AreDiagnosesUpTo c.args.system.now told.level c.deref.result.now = rw c.deref.ensures.value (cheapest_few_marks _ _ told.level told.pairs.items c.args.system.now c.requires.same c.in_ok-pairs.ensures.found.0) in
    (c.in_ok-found.ensures first told.level c.in_ok-pairs.ensures.found.0.told.asking few).found.1.going

pub stop_level-requires : goal.stop_level-requires
stop_level-requires g c = rw c.deref-3.ensures.value (told_to _ _ c.in_ok-pairs.field-0.level c.in_ok-pairs.field-0.pairs.items c.in_ok-pairs.ensures.found.0.told c.args.system.now c.requires.same)

pub returns-in_err-take_rest : goal.returns-in_err-take_rest
returns-in_err-take_rest g c =
    let first = g.E.Evaluator.stands c.args.evaluator.now in
    let told = c.in_ok-pairs.field-0 in
    let few : AreDiagnosesUpTo c.args.system.now told.level c.deref.result.now = rw c.deref.ensures.value (cheapest_few_marks _ _ told.level told.pairs.items c.args.system.now c.requires.same c.in_ok-pairs.ensures.found.0) in
    let asking = (c.in_ok-found.ensures first told.level c.in_ok-pairs.ensures.found.0.told.asking few).found.1 in
    let is = subst (λ (m : System). IsStopLevel m c.stop_level.result) (sym c.requires.same) c.stop_level.ensures in
    let taken = c.in_err-take_rest.ensures first asking (stop_up_to first.system c.stop_level.result is) in
    searches_cut _ _ _ _ _ c.from_residual-in_err-take_rest.ensures.1 taken.stop taken.rest

pub cost_of_each-requires : goal.cost_of_each-requires
cost_of_each-requires g c = rw c.deref-4.ensures.value (told_to _ _ c.in_ok-pairs.field-0.level c.in_ok-pairs.field-0.pairs.items c.in_ok-pairs.ensures.found.0.told c.args.system.now c.requires.same)

pub returns : goal.returns
returns g c =
    let first = g.E.Evaluator.stands c.args.evaluator.now in
    let told = c.in_ok-pairs.field-0 in
    let reached = c.in_ok-pairs.ensures.found.0 in
    let few : AreDiagnosesUpTo c.args.system.now told.level c.deref.result.now = rw c.deref.ensures.value (cheapest_few_marks _ _ told.level told.pairs.items c.args.system.now c.requires.same reached) in
    let shown = (c.in_ok-found.ensures first told.level reached.told.asking few).found in
    let stop = c.stop_level.result in
    let is = subst (λ (m : System). IsStopLevel m stop) (sym c.requires.same) c.stop_level.ensures in
    let up = told_up_to first _ told.level told.pairs.items reached.told stop is in
    let asking = (c.in_ok-take_rest.ensures first shown.1 (stop_up_to first.system stop is)).found in
    let all : max told.level stop ≡ stop = omega (arith, up) in
    let stopped = asked_all first _ told.level told.pairs.items reached.told (g.E.Evaluator.stands c.take_rest.new.evaluator) stop is (subst (λ k. IsAsking first (g.E.Evaluator.stands c.take_rest.new.evaluator) (k + 1)) all asking) in
    record {
      found = search_told first _ told.pairs.items stopped _ _ asking.rest stopped.settled stopped.level_done
          (shown.0.paired ∙ c.deref.ensures.value) (subst (λ (m : System). AllByRecursion (ShowsFirstState m) c.in_ok-found.found.items) (sym c.requires.same) shown.0.shown)
          (subst (λ (m : System). IsLeastCost m c.cost_of_each.result) (sym c.requires.same) c.cost_of_each.ensures) c.asked.ensures;
      stop = tt;
      rest = asking.rest;
    }
