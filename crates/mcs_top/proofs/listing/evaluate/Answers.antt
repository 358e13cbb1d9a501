use Rattle.std.proofs.Common.{[], ◌∷◌}
use Rattle.mcs_ports.specs.Causes.{Rose}
use Rattle.mcs_work.specs.Tasks.{IsTaskText, IsTaskStage}
use Rattle.mcs_listing.specs.Jobs.{told_all}
use Rattle.mcs_listing.specs.Texts.{IsRefusedTask}
use Rattle.mcs_crew.specs.Trails.{trail_of}
use Rattle.mcs_top.specs.Meaning.{task_job}
use Rattle.mcs_top.proofs.StageLemmas.{read_cause, read_left, file_listed, file_causes, file_leaves}
use Rattle.mcs_top.proofs.DoingLemmas.{does_stop, does_done, does_unused}
use Rattle.mcs_top.proofs.JobTrails.{err_left, file_left, unread_left}
use Rattle.mcs_top.proofs.listing.evaluate.Goals as goal

pub returns-in_err-system-clause-does : goal.returns-in_err-system-clause-does
returns-in_err-system-clause-does g c =
    let a = c.args.assignment in
    let job = task_job a.task c.args.file.now a.budget a.workers in
    let held = g.H.Shelf.held c.args.shelf.now in
    let files = told_all held (c.args.file.now ∷ []) in
    let rose = Rose (g.H.Shelf.faults c.args.shelf.now) (g.H.Shelf.faults c.system_for.new.shelf) in
    let failed = Rose (g.H.Shelf.failures c.args.shelf.now) (g.H.Shelf.failures c.system_for.new.shelf) in
    let at = g.K.Sink.device c.args.sink.now in
    let stop = c.in_err-system.field-0.0 in
    does_stop job held _ _ _ _ at at stop _ c.from_residual.ensures.1 (does_unused job held _ _ _ _ at stop c.system_for.ensures.later
    (read_cause (IsTaskText a.task) (IsTaskStage a.task) a.task c.args.file.now a.budget a.workers rose failed (Rose at.faults at.faults) files stop c.in_err-system.ensures.stop)
    (read_left job (IsRefusedTask a.task) rose failed files files at.written stop c.in_err-system.ensures.stop))

pub returns-clause-does : goal.returns-clause-does
returns-clause-does g c =
    let a = c.args.assignment in
    let job = task_job a.task c.args.file.now a.budget a.workers in
    let before = g.K.Sink.device c.args.sink.now in
    let now = g.K.Sink.device c.list_system.new.sink in
    does_done job (g.H.Shelf.held c.args.shelf.now) _ _ _ _ before now (λ fs h. h) c.system_for.ensures.later c.list_system.result c.list_system.ensures.sink
    (file_listed (IsTaskText a.task) (IsTaskStage a.task) a.task c.args.file.now a.budget a.workers c.in_ok-system.system _ c.in_ok-system.ensures.system before.written now.written c.list_system.result c.list_system.ensures.ok)
    (file_causes (IsTaskText a.task) (IsTaskStage a.task) a.task c.args.file.now a.budget a.workers c.in_ok-system.system _ c.in_ok-system.ensures.system _ _ _ before.written now.written c.list_system.result c.list_system.ensures.stop)
    (file_leaves (IsTaskText a.task) (IsTaskStage a.task) a.task c.args.file.now a.budget a.workers c.in_ok-system.system _ c.in_ok-system.ensures.system _ before.written now.written c.list_system.result c.list_system.ensures.stop)

pub returns-in_err-system-clause-trail : goal.returns-in_err-system-clause-trail
returns-in_err-system-clause-trail g c none =
    let a = c.args.assignment in
    let job = task_job a.task c.args.file.now a.budget a.workers in
    let files = told_all (g.H.Shelf.held c.args.shelf.now) (c.args.file.now ∷ []) in
    err_left job files (trail_of c.args.trail.now) _ _ c.from_residual.ensures.1 (unread_left job (IsRefusedTask a.task) files files (trail_of c.args.trail.now) _ _ c.in_err-system.field-0.0 none c.in_err-system.ensures.stop)

pub returns-clause-trail : goal.returns-clause-trail
returns-clause-trail g c none =
    let a = c.args.assignment in
    file_left (IsTaskText a.task) (IsTaskStage a.task) a.task c.args.file.now a.budget a.workers c.in_ok-system.system _ c.in_ok-system.ensures.system (trail_of c.list_system.new.trail) c.list_system.result (c.list_system.ensures.trail none)
