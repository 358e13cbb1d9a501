use Rattle.std.proofs.Common.{◌∙◌, Option, refl, ap, unwrap_or}
use Rattle.std.specs.Arc.{arc_value}
use Rattle.mcs_mesh.specs.Players.{oracles_of}
use Rattle.mcs_crew.specs.Trails.{trail_of}
use Rattle.mcs_crew.specs.declared.trail.Trail as code
use Rattle.mcs_top.specs.TaskTrails.{plays_each}
use Rattle.mcs_top.proofs.TrailLemmas.{by_workers, work_shown}
use Rattle.mcs_top.proofs.threads.work_in_threads.Goals as goal

pub returns-clause-shows : goal.returns-clause-shows
returns-clause-shows g c =
    let each = plays_each c.args.task in
    let worked = by_workers each c.args.task (arc_value c.args.system) c.args.beginning.budget c.new-player.result.workers c.args.workers c.new-player.ensures.workers (oracles_of c.args.beginning.nodes.list.items) c.work_with-ended.result.1.nodes.list.items c.work_with-ended.result.1.trail
    (g.K.Sink.device c.args.sink.now) (g.K.Sink.device c.work_with-ended.new.sink) c.work_with-ended.result.0 c.work_with-ended.ensures in
    work_shown each c.args.task refl (arc_value c.args.system) c.args.beginning.budget c.args.workers (oracles_of c.args.beginning.nodes.list.items) c.work_with-ended.result.1.nodes.list.items c.work_with-ended.result.1.trail (g.K.Sink.device c.args.sink.now) (g.K.Sink.device c.work_with-ended.new.sink) c.work_with-ended.result.0
    worked (trail_of c.unwrap_or.result)
    (λ t is. ap trail_of (c.unwrap_or.ensures ∙ ap (λ (o : Option code.Trail). unwrap_or o c.nothing.result) is)) (λ is. rw (c.unwrap_or.ensures, is) c.nothing.ensures)
