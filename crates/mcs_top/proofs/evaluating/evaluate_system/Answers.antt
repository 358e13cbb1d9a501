use Rattle.std.proofs.Common.{◌∙◌, Ok, Err, ap, sym, subst}
use Rattle.mcs_base.proofs.Results.{err_told}
use Rattle.mcs_listing.specs.declared.ending.Stop.{Stop}
use Rattle.mcs_listing.specs.declared.ending.Stop.TheVariants as stops
use Rattle.mcs_system.specs.Plain.{System}
use Rattle.mcs_listing.specs.Listings.{StopsWork}
use Rattle.mcs_listing.specs.Working.{CanWork}
use Rattle.mcs_listing.proofs.WorkLemmas.{nothing_left, work_stopped, work_unfailed}
use Rattle.mcs_crew.specs.Trails.{trail_of}
use Rattle.mcs_listing.proofs.DeviceLemmas.{still}
use Rattle.mcs_top.proofs.TrailLemmas.{first_evaluator, has_listed, nothing_end}
use Rattle.std.specs.Arc.{arc_value}
use Rattle.mcs_top.proofs.evaluating.evaluate_system.Goals as goal

pub work_on-worked-requires-after_bounds : goal.work_on-worked-requires-after_bounds
work_on-worked-requires-after_bounds g c κs within =
    let begun = c.in_ok-begun.begun in
    let can : CanWork c.args.assignment.task (arc_value c.args.system.now) (arc_value begun.plan) begun.budget begun.nodes.list.items = record { begins = c.in_ok-begun.ensures.begins; defined = c.requires } in
    subst (λ (n : System). CanWork c.args.assignment.task n (arc_value begun.plan) begun.budget begun.nodes.list.items) (sym c.in_ok-listed.ensures.cases) can

pub returns-in_err-listed-clause-stop : goal.returns-in_err-listed-clause-stop
returns-in_err-listed-clause-stop g c = err_told (λ stop. StopsWork stop c.args.assignment.task c.args.assignment.budget (arc_value c.args.system.now) _ _ _) _ _ c.from_residual.ensures.1 (nothing_left c.args.assignment.task (arc_value c.args.system.now) (g.K.Sink.device c.args.sink.now).written)

pub returns-in_err-listed-clause-trail : goal.returns-in_err-listed-clause-trail
returns-in_err-listed-clause-trail g c none = nothing_end c.args.assignment.task c.args.assignment.budget c.args.assignment.workers (arc_value c.args.system.now) (trail_of c.args.trail.now) none stops.Memory (λ level limit e. cc) _ c.from_residual.ensures.1

pub returns-in_err-begun-clause-stop : goal.returns-in_err-begun-clause-stop
returns-in_err-begun-clause-stop g c = err_told (λ stop. StopsWork stop c.args.assignment.task c.args.assignment.budget (arc_value c.args.system.now) _ _ _) _ _ c.from_residual-in_err-begun.ensures.1 (nothing_left c.args.assignment.task (arc_value c.args.system.now) (g.K.Sink.device c.args.sink.now).written)

pub returns-in_err-begun-clause-trail : goal.returns-in_err-begun-clause-trail
returns-in_err-begun-clause-trail g c none = nothing_end c.args.assignment.task c.args.assignment.budget c.args.assignment.workers (arc_value c.args.system.now) (trail_of c.args.trail.now) none stops.Memory (λ level limit e. cc) _ c.from_residual-in_err-begun.ensures.1

pub returns-in-Ok-clause-ok : goal.returns-in-Ok-clause-ok
returns-in-Ok-clause-ok g c =
    let (by, w) = rw (c.in_ok-listed.ensures.cases, c.in_ok-begun.ensures.budget) at c.work_on-worked.ensures.worked in
    has_listed c.args.assignment.task by (arc_value c.args.system.now) c.args.assignment.budget _ _ (g.K.Sink.device c.args.sink.now) (g.K.Sink.device c.work_on-worked.new.sink) (Ok c.in-Ok.field-0) c.in_ok-begun.ensures.sure (rw c.in-Ok.is at w) c.args.assignment.keep c.in_ok-begun.ensures.keeps (rw c.in-Ok.is at w).works.done

pub returns-in-Err-clause-stop : goal.returns-in-Err-clause-stop
returns-in-Err-clause-stop g c =
    let (by, w) = rw (c.in_ok-listed.ensures.cases, c.in_ok-begun.ensures.budget) at c.work_on-worked.ensures.worked in
    rw c.stop_for_work.ensures (work_stopped c.args.assignment.task (arc_value c.args.system.now) c.args.assignment.budget _ w.state
    (first_evaluator c.args.assignment.task by (arc_value c.args.system.now) c.args.assignment.budget _ _ (g.K.Sink.device c.args.sink.now) (g.K.Sink.device c.work_on-worked.new.sink) _ c.in_ok-begun.ensures.sure w)
    (g.K.Sink.device c.args.sink.now) (g.K.Sink.device c.work_on-worked.new.sink) c.in-Err.stop (rw c.in-Err.is at w.works.stop))

pub returns-in_err-listed-clause-sink : goal.returns-in_err-listed-clause-sink
returns-in_err-listed-clause-sink g c = still (g.K.Sink.device c.args.sink.now) _

pub returns-in_err-begun-clause-sink : goal.returns-in_err-begun-clause-sink
returns-in_err-begun-clause-sink g c = still (g.K.Sink.device c.args.sink.now) _

pub returns-in-Ok-clause-sink : goal.returns-in-Ok-clause-sink
returns-in-Ok-clause-sink g c = let (by, w) = c.work_on-worked.ensures.worked in record { later = w.works.later; unfailed = λ other. rw c.in-Ok.is at w.works.quiet; notes = w.works.notes }

pub returns-in-Err-clause-sink : goal.returns-in-Err-clause-sink
returns-in-Err-clause-sink g c =
    let (by, w) = rw (c.in_ok-listed.ensures.cases, c.in_ok-begun.ensures.budget) at c.work_on-worked.ensures.worked in
    record {
      later = w.works.later;
      unfailed = λ other. work_unfailed c.args.assignment.task (arc_value c.args.system.now) c.args.assignment.budget _ w.state
          (first_evaluator c.args.assignment.task by (arc_value c.args.system.now) c.args.assignment.budget _ _ (g.K.Sink.device c.args.sink.now) (g.K.Sink.device c.work_on-worked.new.sink) _ c.in_ok-begun.ensures.sure w)
          (g.K.Sink.device c.args.sink.now) (g.K.Sink.device c.work_on-worked.new.sink) c.in-Err.stop (rw c.in-Err.is at w.works.stop)
          (λ is. other (ap (λ (s : Stop). Err s) (c.stop_for_work.ensures ∙ is)));
      notes = w.works.notes;
    }

pub returns-in-Ok-clause-trail : goal.returns-in-Ok-clause-trail
returns-in-Ok-clause-trail g c none = rw (c.in_ok-listed.ensures.cases, c.in_ok-begun.ensures.budget, c.in-Ok.is) at c.work_on-worked.ensures.shows

pub returns-in-Err-clause-trail : goal.returns-in-Err-clause-trail
returns-in-Err-clause-trail g c none = rw c.stop_for_work.ensures (rw (c.in_ok-listed.ensures.cases, c.in_ok-begun.ensures.budget, c.in-Err.is) at c.work_on-worked.ensures.shows)
