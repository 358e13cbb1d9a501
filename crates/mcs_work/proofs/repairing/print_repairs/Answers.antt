use Rattle.std.proofs.Common.{[], ◌∙◌, ap}
use Rattle.mcs_diagnosis.specs.Diagnoses.{pairs_of}
use Rattle.mcs_work.specs.Extents.{task_of, front_part}
use Rattle.mcs_work.proofs.StopLemmas.{works_cut}
use Rattle.mcs_work.proofs.CourseLemmas.{nothing_left, levels_worked, causes_within, rest_stops, rest_done}
use Rattle.mcs_work.proofs.repairing.print_repairs.Goals as goal

pub returns-in_err-found : goal.returns-in_err-found
returns-in_err-found g c σs equilibria counted = works_cut (task_of c.args.extent) (front_part c.args.extent c.args.system.now σs []) _ _ _ _ _ _ c.from_residual.ensures.1 (c.in_err-found.ensures.part σs equilibria)

pub returns-in_err-pairs : goal.returns-in_err-pairs
returns-in_err-pairs g c σs equilibria counted =
    let end = c.in_ok-found.ensures.ended in
    levels_worked c.args.extent c.args.system.now σs c.in_ok-found.found.items _ _ _ _ _ _ _ _ (c.in_ok-found.ensures.part σs equilibria) end.written _
    (works_cut (task_of c.args.extent) (front_part c.args.extent c.args.system.now σs c.in_ok-found.found.items) _ _ _ _ _ _ c.from_residual-in_err-pairs.ensures.1 (nothing_left c.args.extent c.args.system.now _ _ c.in_ok-found.found.items end.under_way σs equilibria _))

pub print_rest-requires : goal.print_rest-requires
print_rest-requires g c = let end = c.in_ok-found.ensures.ended in
    rw (c.deref-2.ensures.value, c.deref-3.ensures.value) (causes_within c.args.system.now _ _ c.in_ok-found.found.items end.under_way end.past c.in_ok-pairs.explanations.items c.in_ok-pairs.pairs.items (c.in_ok-pairs.ensures.pairs ∙ ap pairs_of c.deref.ensures.value) (rw c.deref.ensures.value at c.in_ok-pairs.ensures.listed))

pub returns-in_err-print_rest : goal.returns-in_err-print_rest
returns-in_err-print_rest g c σs equilibria counted =
    let end = c.in_ok-found.ensures.ended in
    levels_worked c.args.extent c.args.system.now σs c.in_ok-found.found.items _ _ _ _ _ _ _ _ (c.in_ok-found.ensures.part σs equilibria) end.written _
    (works_cut (task_of c.args.extent) (front_part c.args.extent c.args.system.now σs c.in_ok-found.found.items) _ _ _ _ _ _ c.from_residual-in_err-print_rest.ensures.1
    (rest_stops c.args.system.now _ _ c.in_ok-found.found.items end.under_way end.past c.in_ok-pairs.explanations.items c.in_ok-pairs.pairs.items (c.in_ok-pairs.ensures.pairs ∙ ap pairs_of c.deref.ensures.value) (rw c.deref.ensures.value at c.in_ok-pairs.ensures.listed)
    c.args.extent σs c.args.states c.asked-asked.result equilibria counted (rw c.evaluator.ensures at c.asked-asked.ensures) _ _ _ (rw (c.deref-2.ensures.value, c.deref-3.ensures.value) at c.in_err-print_rest.ensures)))

pub returns : goal.returns
returns g c σs equilibria counted =
    let end = c.in_ok-found.ensures.ended in
    levels_worked c.args.extent c.args.system.now σs c.in_ok-found.found.items _ _ _ _ _ _ _ _ (c.in_ok-found.ensures.part σs equilibria) end.written _
    (rest_done c.args.system.now _ _ c.in_ok-found.found.items end.under_way end.past c.in_ok-pairs.explanations.items c.in_ok-pairs.pairs.items (c.in_ok-pairs.ensures.pairs ∙ ap pairs_of c.deref.ensures.value) (rw c.deref.ensures.value at c.in_ok-pairs.ensures.listed)
    c.args.extent σs c.args.states c.asked-asked.result equilibria counted (rw c.evaluator.ensures at c.asked-asked.ensures) _ _ _ (rw (c.deref-2.ensures.value, c.deref-3.ensures.value) at c.in_ok-print_rest.ensures))
