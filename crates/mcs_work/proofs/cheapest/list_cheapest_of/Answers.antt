use Rattle.std.proofs.Common.{[], refl}
use Rattle.mcs_report.specs.Listing.{heading}
use Rattle.mcs_work.specs.Tasks.{stop_for_halt}
use Rattle.mcs_work.specs.declared.task.Task.TheVariants.{Cheapest}
use Rattle.mcs_work.proofs.CheapestLemmas.{after_opening, lines_within, search_cut, search_done, search_stops, verdict_cut}
use Rattle.mcs_work.proofs.StopLemmas.{opening_stops, works_cut}
use Rattle.mcs_work.proofs.cheapest.list_cheapest_of.Goals as goal

pub returns-in_err-print_opening : goal.returns-in_err-print_opening
returns-in_err-print_opening g c = works_cut Cheapest [] _ _ _ _ _ _ c.from_residual.ensures.1 (opening_stops Cheapest c.args.system.now _ c.requires.same _ _ _ c.in_err-print_opening.ensures)

pub print_cheapest-requires : goal.print_cheapest-requires
print_cheapest-requires g c = lines_within c.args.system.now _ _ c.requires.same c.bridges-bridges.ensures.valid c.list_least.ensures.rest c.in-Ok.cheapest c.in-Ok.ensures.found

pub returns-in_err-print_cheapest-in-Ok : goal.returns-in_err-print_cheapest-in-Ok
returns-in_err-print_cheapest-in-Ok g c =
    after_opening c.args.system.now _ _ _ _ _ _ c.in_ok-print_opening.ensures _
    (works_cut Cheapest (heading c.args.system.now) _ _ _ _ _ _ c.from_residual-in_err-print_cheapest-in-Ok.ensures.1
    (search_cut c.args.system.now _ _ c.requires.same c.bridges-bridges.ensures.valid c.list_least.ensures.rest c.in-Ok.cheapest c.in-Ok.ensures.found _ _ _ c.in_err-print_cheapest-in-Ok.ensures))

pub returns-in_ok-print_cheapest-in-Ok : goal.returns-in_ok-print_cheapest-in-Ok
returns-in_ok-print_cheapest-in-Ok g c =
    after_opening c.args.system.now _ _ _ _ _ _ c.in_ok-print_opening.ensures _
    (search_done c.args.system.now _ _ c.requires.same c.bridges-bridges.ensures.valid c.list_least.ensures.rest c.in-Ok.cheapest c.in-Ok.ensures.found _ _ _ c.in_ok-print_cheapest-in-Ok.ensures)

pub returns-in_err-print_verdict_before-in-Err : goal.returns-in_err-print_verdict_before-in-Err
returns-in_err-print_verdict_before-in-Err g c =
    after_opening c.args.system.now _ _ _ _ _ _ c.in_ok-print_opening.ensures _
    (works_cut Cheapest (heading c.args.system.now) _ _ _ _ _ _ c.from_residual-in_err-print_verdict_before-in-Err.ensures.1
    (verdict_cut c.args.system.now _ _ c.requires.same c.list_least.ensures.rest _ _ c.in-Err.halt c.in-Err.ensures.stop _ c.in_err-print_verdict_before-in-Err.ensures))

pub returns-in_ok-print_verdict_before-in-Err : goal.returns-in_ok-print_verdict_before-in-Err
returns-in_ok-print_verdict_before-in-Err g c = rw c.from.ensures
    (after_opening c.args.system.now _ _ _ _ _ _ c.in_ok-print_opening.ensures _
    (works_cut Cheapest (heading c.args.system.now) _ _ _ _ (stop_for_halt c.in-Err.halt) _ refl
    (search_stops c.args.system.now _ _ c.requires.same c.list_least.ensures.rest _ _ c.in-Err.halt c.in-Err.ensures.stop _ c.in_ok-print_verdict_before-in-Err.ensures)))
