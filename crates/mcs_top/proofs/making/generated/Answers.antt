use Rattle.mcs_listing.specs.Listings.{StopsGenerated}
use Rattle.mcs_listing.proofs.WorkLemmas.{made_done, made_stops, line_stopped}
use Rattle.mcs_listing.proofs.DeviceLemmas.{still, sink_then, sink_wrote, sink_cut}
use Rattle.mcs_base.proofs.Results.{err_told}
use Rattle.mcs_listing.specs.declared.ending.Stop.TheVariants as stops
use Rattle.mcs_work.specs.declared.task.Task.TheVariants.{Make}
use Rattle.mcs_generator.specs.Generated.{generated_system}
use Rattle.mcs_crew.specs.Trails.{trail_of}
use Rattle.mcs_top.proofs.TrailLemmas.{line_end, nothing_end}
use Rattle.mcs_top.proofs.making.generated.Goals as goal

pub returns-in_err-print_number-clause-stop : goal.returns-in_err-print_number-clause-stop
returns-in_err-print_number-clause-stop g c = err_told (λ stop. StopsGenerated stop c.args.number c.args.budget _ _ _) _ _ c.from_residual-in_err-print_number.ensures.1
    (line_stopped c.args.number c.args.budget (g.K.Sink.device c.args.sink.now) (g.K.Sink.device c.print_number.new.sink) (g.K.Sink.device c.print_number.new.sink) _ (rw c.in_ok-system.ensures at c.in_err-print_number.ensures))

pub returns-clause-ok : goal.returns-clause-ok
returns-clause-ok g c = made_done c.args.number c.args.budget (g.K.Sink.device c.args.sink.now) (g.K.Sink.device c.print_number.new.sink) (g.K.Sink.device c.list_system.new.sink) (rw c.in_ok-system.ensures at c.in_ok-print_number.ensures.whole) c.list_system.result (rw c.in_ok-system.ensures at c.list_system.ensures.ok)

pub returns-clause-stop : goal.returns-clause-stop
returns-clause-stop g c = made_stops c.args.number c.args.budget (g.K.Sink.device c.args.sink.now) (g.K.Sink.device c.print_number.new.sink) (g.K.Sink.device c.list_system.new.sink) (rw c.in_ok-system.ensures at c.in_ok-print_number.ensures.whole) c.list_system.result c.in_ok-print_number.ensures.later (rw c.in_ok-system.ensures at c.list_system.ensures.stop)

pub returns-in_err-system-clause-sink : goal.returns-in_err-system-clause-sink
returns-in_err-system-clause-sink g c = still (g.K.Sink.device c.args.sink.now) _

pub returns-in_err-print_number-clause-sink : goal.returns-in_err-print_number-clause-sink
returns-in_err-print_number-clause-sink g c = sink_cut _ _ _ _ _ c.from_residual-in_err-print_number.ensures.1 c.in_err-print_number.ensures

pub returns-clause-sink : goal.returns-clause-sink
returns-clause-sink g c = sink_then _ _ _ _ _ (sink_wrote _ _ _ _ (tt {0}) c.in_ok-print_number.ensures) c.list_system.ensures.sink

-- ---- what is left to be seen
pub returns-in_err-system-clause-trail : goal.returns-in_err-system-clause-trail
returns-in_err-system-clause-trail g c none = nothing_end Make c.args.budget c.args.workers (generated_system c.args.number) (trail_of c.args.trail.now) none stops.Memory (λ level limit e. cc) _ c.from_residual.ensures.1

pub returns-in_err-print_number-clause-trail : goal.returns-in_err-print_number-clause-trail
returns-in_err-print_number-clause-trail g c none = line_end Make c.args.budget c.args.workers (generated_system c.args.number) (trail_of c.args.trail.now) none _ _ c.from_residual-in_err-print_number.ensures.1

pub returns-clause-trail : goal.returns-clause-trail
returns-clause-trail g c none = rw c.in_ok-system.ensures at c.list_system.ensures.trail none
