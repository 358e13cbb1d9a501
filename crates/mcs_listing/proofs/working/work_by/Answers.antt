use Rattle.std.proofs.Common.{◌∙◌, [], None, ap, subst}
use Rattle.std.specs.Arc.{arc_value}
use Rattle.mcs_system.specs.Plain.{System}
use Rattle.mcs_states.specs.Evaluators.{EvaluatorState}
use Rattle.mcs_mesh.specs.Players.{oracles_of}
use Rattle.mcs_mesh.specs.Rounds.{evaluator_state_of}
use Rattle.mcs_work.specs.Work.{Works}
use Rattle.mcs_listing.proofs.WorkedLemmas.{worked}
use Rattle.mcs_listing.proofs.working.work_by.Goals as goal

pub returns : goal.returns
returns g c =
    let workers = g.P.Player.workers c.args.player in
    let first = oracles_of (g.P.Over.NodeList.seen c.args.beginning.nodes) in
    let before = g.K.Sink.device c.args.sink.now in
    let now = g.K.Sink.device c.do_task-ended.new.sink in
    let e = c.do_task-ended.result.1 in
    let works = subst (λ (s : EvaluatorState). Works c.args.task [] s e.state before now c.do_task-ended.result.0)
    (c.played_by-evaluation.ensures.state ∙ ap (λ (m : System). evaluator_state_of workers m c.args.beginning.budget None None first) c.requires.work.begins.plan_is) c.do_task-ended.ensures in
    let told = c.into_parts.ensures in
    worked g.P.Player.leaves g.P.Player.plays_last g.P.Player.plays_each workers c.args.task (arc_value c.args.system) c.args.beginning.budget first e (g.P.Over.NodeList.seen c.into_parts.result.nodes) c.into_parts.result.trail before now c.do_task-ended.result.0 works
    told.nodes told.oracles told.own told.shown told.unshown told.halt told.last told.reaches told.each
