use Rattle.std.proofs.Common.{[], Ok, Err, subst}
use Rattle.std.specs.Arc.{arc_value}
use Rattle.mcs_ports.specs.Pieces.{Device}
use Rattle.mcs_states.specs.Evaluators.{EvaluatorState}
use Rattle.mcs_work.specs.Work.{HasStopped, Works}
use Rattle.mcs_work.specs.declared.task.Task.TheVariants.{Cheapest}
use Rattle.mcs_work.specs.declared.task.WorkStop.{WorkStop}
use Rattle.mcs_check.specs.Relisting.{start_of}
use Rattle.mcs_check.proofs.CheapestLemmas.{cut_off, front_written, none_told, whole_written}
use Rattle.mcs_check.proofs.cheapest.list_by.Goals as goal

pub returns-in_err-recalling : goal.returns-in_err-recalling
returns-in_err-recalling g c = none_told (arc_value c.args.system) c.requires.valid (g.K.Sink.device c.args.sink.now) _ c.from_residual.ensures.1

pub cut_off-requires : goal.cut_off-requires
cut_off-requires g c =
    let before : Device = g.K.Sink.device c.args.sink.now in
    let now : Device = g.K.Sink.device c.work-worked.new.sink in
    let e = c.work-worked.result.1 in
    cut_off (arc_value c.args.system) c.requires.valid c.args.accepted.oracles.items c.requires.accepted.whole e before now c.in-Err.stop
    (subst (λ (b : EvaluatorState). HasStopped Cheapest [] b e before now c.in-Err.stop) (c.in_ok-recalling.ensures) (rw c.in-Err.is at c.work-worked.ensures.stop))

pub returns-in-Ok : goal.returns-in-Ok
returns-in-Ok g c =
    let before : Device = g.K.Sink.device c.args.sink.now in
    let now : Device = g.K.Sink.device c.work-worked.new.sink in
    let e = c.work-worked.result.1 in
    whole_written (arc_value c.args.system) c.requires.valid c.args.accepted.oracles.items c.requires.accepted.whole e before now _ _
    (subst (λ (b : EvaluatorState). Works Cheapest [] b e before now (Ok _)) (c.in_ok-recalling.ensures) (rw c.in-Ok.is at c.work-worked.ensures))

pub returns-in-Err : goal.returns-in-Err
returns-in-Err g c =
    let before : Device = g.K.Sink.device c.args.sink.now in
    let now : Device = g.K.Sink.device c.work-worked.new.sink in
    let e = c.work-worked.result.1 in
    front_written (arc_value c.args.system) c.requires.valid c.args.accepted.oracles.items c.requires.accepted.whole e before now c.cut_off.result
    (subst (λ (s : WorkStop). Works Cheapest [] (start_of (arc_value c.args.system) c.args.accepted.oracles.items) e before now (Err s)) c.cut_off.ensures
    (subst (λ (b : EvaluatorState). Works Cheapest [] b e before now (Err c.in-Err.stop)) (c.in_ok-recalling.ensures) (rw c.in-Err.is at c.work-worked.ensures)))
