use Rattle.std.proofs.Common.{[], ◌∷◌, map, inl, refl}
use Rattle.mcs_ports.specs.Causes.{Rose}
use Rattle.mcs_script.specs.Seen.{edit_of}
use Rattle.mcs_listing.specs.Jobs.{told_all}
use Rattle.mcs_listing.specs.declared.ending.Stop.TheVariants as stops
use Rattle.mcs_top.specs.Meaning.{session_job}
use Rattle.mcs_top.proofs.DoingLemmas.{does_stop, does_unused}
use Rattle.mcs_top.proofs.SessionLemmas.{session_done, unread_cause, unread_left}
use Rattle.mcs_top.proofs.session.list_session.Goals as goal

-- ---- a file is not had
pub returns-in_err-system : goal.returns-in_err-system
returns-in_err-system g c =
    let job = session_job c.args.file.now c.args.script.now c.args.budget in
    let held = g.H.Shelf.held c.args.shelf.now in
    let rose = Rose (g.H.Shelf.faults c.args.shelf.now) (g.H.Shelf.faults c.system_and_edits.new.shelf) in
    let failed = Rose (g.H.Shelf.failures c.args.shelf.now) (g.H.Shelf.failures c.system_and_edits.new.shelf) in
    let files = told_all held (c.args.file.now ∷ c.args.script.now ∷ []) in
    let at = g.K.Sink.device c.args.sink.now in
    let stop = c.in_err-system.field-0.0 in
    does_stop job held _ _ _ _ at at stop _ c.from_residual.ensures.1 (does_unused job held _ _ _ _ at stop c.system_and_edits.ensures.later
    (unread_cause c.args.file.now c.args.script.now c.args.budget rose failed (Rose at.faults at.faults) files stop c.in_err-system.ensures.stop)
    (unread_left c.args.file.now c.args.script.now c.args.budget rose failed files at.written stop c.in_err-system.ensures.stop))

-- ---- there is no memory for the askers
pub returns-in_err-askers : goal.returns-in_err-askers
returns-in_err-askers g c =
    let job = session_job c.args.file.now c.args.script.now c.args.budget in
    let held = g.H.Shelf.held c.args.shelf.now in
    let at = g.K.Sink.device c.args.sink.now in
    does_stop job held _ _ _ _ at at stops.Memory _ c.from_residual-in_err-askers.ensures.1 (does_unused job held _ _ _ _ at stops.Memory c.system_and_edits.ensures.later tt (inl refl))

-- ---- what is printed
pub returns : goal.returns
returns g c = session_done c.args.file.now c.args.script.now c.args.budget c.in_ok-system.system (map edit_of c.in_ok-system.edits.items) (g.H.Shelf.held c.args.shelf.now) _ _ _ _ c.system_and_edits.ensures.later c.in_ok-system.ensures.read
    (g.K.Sink.device c.args.sink.now) (g.K.Sink.device c.list_script.new.sink) c.list_script.result (rw c.deref.ensures.value at c.list_script.ensures)
