use Rattle.std.proofs.Common.{[], ◌∙◌, refl}
use Rattle.mcs_work.specs.declared.task.Task.TheVariants.{Grounded}
use Rattle.mcs_work.proofs.StopLemmas.{works_cut}
use Rattle.mcs_work.proofs.LowestLemmas.{rest_lacks, rest_stops, rest_done, grounded_known, grounded_within}
use Rattle.mcs_listing.proofs.working.list_grounded.Goals as goal

pub returns-in_err-states : goal.returns-in_err-states
returns-in_err-states g c = works_cut Grounded [] _ _ _ _ _ _ c.from_residual.ensures.1 c.in_err-states.ensures.part

pub grounded_among-requires-clause-states : goal.grounded_among-requires-clause-states
grounded_among-requires-clause-states g c = rw c.deref.ensures.value c.in_ok-states.ensures.found.found

pub returns-in_err-grounded : goal.returns-in_err-grounded
returns-in_err-grounded g c = works_cut Grounded [] _ _ _ _ _ _ c.from_residual-in_err-grounded.ensures.1 (rest_lacks Grounded c.args.system.now _ _ c.requires.begin _ _ _ c.in_ok-states.ensures.part c.in_ok-states.states.items c.in_ok-states.ensures.found)

pub print_grounded-requires : goal.print_grounded-requires
print_grounded-requires g c = rw c.deref-2.ensures.value (grounded_within c.args.system.now c.in_ok-grounded.grounded.items c.in_ok-grounded.ensures)

pub returns-in_err-print_grounded : goal.returns-in_err-print_grounded
returns-in_err-print_grounded g c = works_cut Grounded [] _ _ _ _ _ _ c.from_residual-in_err-print_grounded.ensures.1
    (rest_stops Grounded c.args.system.now _ _ c.requires.begin _ _ _ c.in_ok-states.ensures.part c.in_ok-states.states.items c.in_ok-states.ensures.found _
    (grounded_known c.args.system.now _ _ c.requires.begin _ _ _ c.asked-asked.result c.asked-asked.ensures c.in_ok-states.ensures.part c.in_ok-states.states.items c.in_ok-states.ensures.found c.in_ok-grounded.grounded.items c.in_ok-grounded.ensures c.len-equilibria.result (c.len-equilibria.ensures ∙ c.in_ok-states.states.ok.0))
    _ _ (rw c.deref-2.ensures.value at c.in_err-print_grounded.ensures))

pub returns : goal.returns
returns g c = rest_done Grounded c.args.system.now _ _ c.requires.begin _ _ _ c.in_ok-states.ensures.part c.in_ok-states.states.items c.in_ok-states.ensures.found _
    (grounded_known c.args.system.now _ _ c.requires.begin _ _ _ c.asked-asked.result c.asked-asked.ensures c.in_ok-states.ensures.part c.in_ok-states.states.items c.in_ok-states.ensures.found c.in_ok-grounded.grounded.items c.in_ok-grounded.ensures c.len-equilibria.result (c.len-equilibria.ensures ∙ c.in_ok-states.states.ok.0))
    refl (λ k taken. taken) _ _ (rw c.deref-2.ensures.value at c.in_ok-print_grounded.ensures)
