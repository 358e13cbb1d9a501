use Rattle.std.proofs.Common.{[], ◌∙◌, sym}
use Rattle.mcs_base.proofs.Each.{all_from_among}
use Rattle.mcs_laws.proofs.Projections.{parts_of}
use Rattle.mcs_work.specs.Extents.{task_of}
use Rattle.mcs_work.specs.Tasks.{opening}
use Rattle.mcs_work.proofs.StopLemmas.{proceeds_cut, proceeds_later, text_goes}
use Rattle.mcs_work.proofs.CourseLemmas.{begun, verdict_stops, front_written}
use Rattle.mcs_work.proofs.repairing.print_equilibria.Goals as goal

pub returns-in_err-states-clause-part : goal.returns-in_err-states-clause-part
returns-in_err-states-clause-part g c = proceeds_cut (task_of c.args.extent) [] _ _ _ _ _ _ c.from_residual.ensures.1 (rw c.task.ensures at c.in_err-states.ensures.part)

pub print_states_part-requires : goal.print_states_part-requires
print_states_part-requires g c = rw c.deref.ensures.value (all_from_among _ c.in_ok-states.states.items (λ σ among. (parts_of _ _ 0 σ ((c.in_ok-states.ensures.found.found.exactly σ).0 among)).0))

pub returns-in_err-print_states_part-clause-part : goal.returns-in_err-print_states_part-clause-part
returns-in_err-print_states_part-clause-part g c =
    let part = rw c.task.ensures at c.in_ok-states.ensures.part in
    let f = rw c.task.ensures at c.in_ok-states.ensures.found in
    proceeds_cut (task_of c.args.extent) [] _ _ _ _ _ _ c.from_residual-in_err-print_states_part.ensures.1
    (proceeds_later (task_of c.args.extent) [] (opening (task_of c.args.extent) c.args.system.now) _ _ _ _ _ _ _ part f.written _
    (verdict_stops c.args.extent c.args.system.now _ (part.rest.system ∙ c.requires.same) c.in_ok-states.states.items f.found _ _ _ (rw c.deref.ensures.value at c.in_err-print_states_part.ensures)))

pub returns-clause-part : goal.returns-clause-part
returns-clause-part g c =
    let part = rw c.task.ensures at c.in_ok-states.ensures.part in
    let f = rw c.task.ensures at c.in_ok-states.ensures.found in
    proceeds_later (task_of c.args.extent) [] (opening (task_of c.args.extent) c.args.system.now) _ _ _ _ _ _ _ part f.written _ (text_goes _ _ _ _ _ _ _ _ c.in_ok-print_states_part.ensures)

pub returns-clause-begun : goal.returns-clause-begun
returns-clause-begun g c =
    let wrote = rw c.deref.ensures.value at c.in_ok-print_states_part.ensures in
    let f = rw c.task.ensures at c.in_ok-states.ensures.found in
    record {
      under_way = begun c.args.system.now _ _ c.requires c.in_ok-states.ensures.part.rest f.done;
      states = c.in_ok-states.states.items;
      equilibria = f.found;
      counted = sym (c.len.ensures ∙ c.in_ok-states.states.ok.0);
      written = front_written c.args.extent c.args.system.now c.in_ok-states.states.items _ _ _ f.written wrote.whole;
    }
