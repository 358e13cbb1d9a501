use Rattle.std.proofs.Common.{sym, subst}
use Rattle.mcs_system.specs.Plain.{System}
use Rattle.mcs_work.specs.Tasks.{IsDefinedFor}
use Rattle.mcs_base.proofs.Results.{err_told}
use Rattle.mcs_listing.specs.declared.ending.Stop.TheVariants as stops
use Rattle.mcs_listing.specs.Listings.{StopsWork}
use Rattle.mcs_listing.proofs.WorkLemmas.{nothing_left}
use Rattle.mcs_crew.specs.Trails.{trail_of}
use Rattle.mcs_listing.proofs.DeviceLemmas.{still, sink_err, sink_ok}
use Rattle.mcs_top.proofs.TrailLemmas.{listing_of, nothing_end, stop_end}
use Rattle.mcs_top.proofs.evaluating.list_system.Goals as goal

pub evaluate_system-requires-after_bounds : goal.evaluate_system-requires-after_bounds
evaluate_system-requires-after_bounds g c κs within = subst (λ (n : System). IsDefinedFor c.args.assignment.task n) (sym c.in_ok-system.ensures) c.requires

pub returns-in_err-system-clause-stop : goal.returns-in_err-system-clause-stop
returns-in_err-system-clause-stop g c = err_told (λ stop. StopsWork stop c.args.assignment.task c.args.assignment.budget c.args.system _ _ _) _ _ c.from_residual.ensures.1 (nothing_left c.args.assignment.task c.args.system (g.K.Sink.device c.args.sink.now).written)

pub returns-in_err-system-clause-trail : goal.returns-in_err-system-clause-trail
returns-in_err-system-clause-trail g c none = nothing_end c.args.assignment.task c.args.assignment.budget c.args.assignment.workers c.args.system (trail_of c.args.trail.now) none stops.Memory (λ level limit e. cc) _ c.from_residual.ensures.1

pub returns-in_err-nodes-clause-stop : goal.returns-in_err-nodes-clause-stop
returns-in_err-nodes-clause-stop g c = err_told (λ stop. StopsWork stop c.args.assignment.task c.args.assignment.budget c.args.system _ _ _) _ _ c.from_residual-in_err-nodes.ensures.1 (rw c.in_ok-system.ensures at c.in_err-nodes.ensures.stop)

pub returns-in_err-nodes-clause-trail : goal.returns-in_err-nodes-clause-trail
returns-in_err-nodes-clause-trail g c none = stop_end c.args.assignment.task c.args.assignment.budget c.args.assignment.workers c.args.system (trail_of c.evaluate_system.new.trail) _ (rw c.in_ok-system.ensures at c.in_err-nodes.ensures.trail none) _ c.from_residual-in_err-nodes.ensures.1

pub returns-clause-ok : goal.returns-clause-ok
returns-clause-ok g c = listing_of c.args.assignment.task c.args.assignment.budget c.args.assignment.keep c.args.system _ _ _ (rw c.in_ok-system.ensures at c.in_ok-nodes.ensures.ok)

pub returns-clause-trail : goal.returns-clause-trail
returns-clause-trail g c none = rw c.in_ok-system.ensures at c.in_ok-nodes.ensures.trail none

pub returns-in_err-system-clause-sink : goal.returns-in_err-system-clause-sink
returns-in_err-system-clause-sink g c = still (g.K.Sink.device c.args.sink.now) _

pub returns-in_err-nodes-clause-sink : goal.returns-in_err-nodes-clause-sink
returns-in_err-nodes-clause-sink g c = sink_err _ _ _ _ c.from_residual-in_err-nodes.ensures.1 c.in_err-nodes.ensures.sink

pub returns-clause-sink : goal.returns-clause-sink
returns-clause-sink g c = sink_ok _ _ _ _ c.in_ok-nodes.ensures.sink
