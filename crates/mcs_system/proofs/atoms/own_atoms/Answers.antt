use Rattle.mcs_system.proofs.GatherLemmas.{due_from_nothing, all_from_nothing, stops_with, first_names-gathered}
use Rattle.mcs_system.proofs.atoms.own_atoms.Goals as goal

pub returns-in_err-add_atoms-clause-many : goal.returns-in_err-add_atoms-clause-many
returns-in_err-add_atoms-clause-many c = due_from_nothing _ _ _ _ _ _ _ c.new-found.ensures.items (first_names-gathered _) (stops_with _ _ _ _ _ _ _ c.from_residual.ensures.1 c.in_err-add_atoms.ensures)

pub returns-clause-own : goal.returns-clause-own
returns-clause-own c =
    let all = all_from_nothing _ _ _ _ _ _ _ c.new-found.ensures.items (first_names-gathered _) c.in_ok-add_atoms.ensures in
    record { names_are = all.0; few = all.1 }
