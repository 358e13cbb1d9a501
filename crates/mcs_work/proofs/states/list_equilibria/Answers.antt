use Rattle.std.proofs.Common.{[], refl}
use Rattle.mcs_base.proofs.Each.{all_from_among}
use Rattle.mcs_laws.proofs.Projections.{parts_of}
use Rattle.mcs_work.specs.declared.task.Task.TheVariants.{Equilibria}
use Rattle.mcs_work.proofs.StopLemmas.{works_cut}
use Rattle.mcs_work.proofs.LowestLemmas.{rest_stops, rest_done, equilibria_known}
use Rattle.mcs_work.proofs.states.list_equilibria.Goals as goal

pub returns-in_err-states : goal.returns-in_err-states
returns-in_err-states g c = works_cut Equilibria [] _ _ _ _ _ _ c.from_residual.ensures.1 c.in_err-states.ensures.part

pub print_listing-requires : goal.print_listing-requires
print_listing-requires g c = rw c.deref.ensures.value (all_from_among _ c.in_ok-states.states.items (λ σ among. (parts_of _ _ 0 σ ((c.in_ok-states.ensures.found.found.exactly σ).0 among)).0))

pub returns-in_err-print_listing : goal.returns-in_err-print_listing
returns-in_err-print_listing g c = works_cut Equilibria [] _ _ _ _ _ _ c.from_residual-in_err-print_listing.ensures.1
    (rest_stops Equilibria c.args.system.now _ _ c.requires _ _ _ c.in_ok-states.ensures.part c.in_ok-states.states.items c.in_ok-states.ensures.found _
    (equilibria_known c.args.system.now _ _ c.requires _ _ _ c.asked.result c.asked.ensures c.in_ok-states.ensures.part c.in_ok-states.states.items c.in_ok-states.ensures.found) _ _ (rw c.deref.ensures.value at c.in_err-print_listing.ensures))

pub returns : goal.returns
returns g c = rest_done Equilibria c.args.system.now _ _ c.requires _ _ _ c.in_ok-states.ensures.part c.in_ok-states.states.items c.in_ok-states.ensures.found _
    (equilibria_known c.args.system.now _ _ c.requires _ _ _ c.asked.result c.asked.ensures c.in_ok-states.ensures.part c.in_ok-states.states.items c.in_ok-states.ensures.found) refl (λ k taken. taken) _ _ (rw c.deref.ensures.value at c.in_ok-print_listing.ensures)
