use Rattle.std.proofs.Common.{◌∙◌, true, arith}
use Rattle.mcs_base.proofs.Results.{err_told}
use Rattle.mcs_listing.specs.declared.ending.Stop.TheVariants as stops
use Rattle.mcs_crew.specs.Trails.{trail_of}
use Rattle.mcs_listing.specs.Listings.{StopsStages}
use Rattle.mcs_top.specs.Meaning.{IsSolutionStage}
use Rattle.mcs_work.specs.declared.task.Task.TheVariants.{Solve}
use Rattle.mcs_top.proofs.ProvingLemmas.{nothing_proved, work_stops_proof, listed_asked, listed_proved, listed_stops}
use Rattle.mcs_listing.proofs.DeviceLemmas.{still, sink_err}
use Rattle.mcs_top.proofs.TrailLemmas.{answered_end, nothing_end, stop_end}
use Rattle.mcs_top.proofs.proving.prove_system.Goals as goal

pub returns-in_err-system-clause-stop : goal.returns-in_err-system-clause-stop
returns-in_err-system-clause-stop g c = err_told (λ stop. StopsStages (IsSolutionStage true) stop Solve c.args.budget c.args.system _ _ _) _ _ c.from_residual.ensures.1 (nothing_proved c.args.system (g.K.Sink.device c.args.sink.now).written)

pub returns-in_err-system-clause-trail : goal.returns-in_err-system-clause-trail
returns-in_err-system-clause-trail g c none = nothing_end Solve c.args.budget c.args.workers c.args.system (trail_of c.args.trail.now) none stops.Memory (λ level limit e. cc) _ c.from_residual.ensures.1

pub returns-in_err-nodes-clause-stop : goal.returns-in_err-nodes-clause-stop
returns-in_err-nodes-clause-stop g c = err_told (λ stop. StopsStages (IsSolutionStage true) stop Solve c.args.budget c.args.system _ _ _) _ _ c.from_residual-in_err-nodes.ensures.1 (work_stops_proof c.args.budget c.args.system _ _ _ _ (rw c.in_ok-system.ensures at c.in_err-nodes.ensures.stop))

pub returns-in_err-nodes-clause-trail : goal.returns-in_err-nodes-clause-trail
returns-in_err-nodes-clause-trail g c none = stop_end Solve c.args.budget c.args.workers c.args.system (trail_of c.evaluate_system.new.trail) _ (rw c.in_ok-system.ensures at c.in_err-nodes.ensures.trail none) _ c.from_residual-in_err-nodes.ensures.1

pub write_answers-requires : goal.write_answers-requires
write_answers-requires g c =
    let h = c.in_ok-nodes.ensures.ok in
    (h.whole.level, (rw (c.deref.ensures, c.in_ok-system.ensures) (listed_asked c.args.system c.args.budget _ _ _ (rw c.in_ok-system.ensures at h))))

pub returns-clause-ok : goal.returns-clause-ok
returns-clause-ok g c =
    let h = rw c.in_ok-system.ensures at c.in_ok-nodes.ensures.ok in
    listed_proved c.args.system c.args.budget _ (g.K.Sink.device c.args.sink.now).written (g.K.Sink.device c.evaluate_system.new.sink).written h (g.K.Sink.device c.write_answers.new.sink).written c.write_answers.result
    ((rw (c.deref.ensures, c.in_ok-system.ensures) at c.write_answers.ensures.ok) h.whole.level (listed_asked c.args.system c.args.budget _ _ _ h))

pub returns-clause-stop : goal.returns-clause-stop
returns-clause-stop g c =
    let h = rw c.in_ok-system.ensures at c.in_ok-nodes.ensures.ok in
    listed_stops c.args.system c.args.budget _ (g.K.Sink.device c.args.sink.now).written (g.K.Sink.device c.evaluate_system.new.sink).written h
    (g.K.Sink.device c.args.sink.now).faults (g.K.Sink.device c.evaluate_system.new.sink).faults (g.K.Sink.device c.write_answers.new.sink).faults c.in_ok-nodes.ensures.sink.later
    (g.K.Sink.device c.write_answers.new.sink).written c.write_answers.result ((rw (c.deref.ensures, c.in_ok-system.ensures) at c.write_answers.ensures.stop) h.whole.level (listed_asked c.args.system c.args.budget _ _ _ h))

pub returns-clause-trail : goal.returns-clause-trail
returns-clause-trail g c none =
    let h = rw c.in_ok-system.ensures at c.in_ok-nodes.ensures.ok in
    answered_end c.args.budget c.args.workers c.args.system (trail_of c.evaluate_system.new.trail) h.whole.level _ _ _ c.write_answers.result ((rw (c.deref.ensures, c.in_ok-system.ensures) at c.write_answers.ensures.stop) h.whole.level (listed_asked c.args.system c.args.budget _ _ _ h))
    (rw c.in_ok-system.ensures at c.in_ok-nodes.ensures.trail none)

pub returns-in_err-system-clause-sink : goal.returns-in_err-system-clause-sink
returns-in_err-system-clause-sink g c = still (g.K.Sink.device c.args.sink.now) _

pub returns-in_err-nodes-clause-sink : goal.returns-in_err-nodes-clause-sink
returns-in_err-nodes-clause-sink g c = sink_err _ _ _ _ c.from_residual-in_err-nodes.ensures.1 c.in_err-nodes.ensures.sink

pub returns-clause-sink : goal.returns-clause-sink
returns-clause-sink g c =
    let listed = c.in_ok-nodes.ensures.sink in
    let proved = c.write_answers.ensures in
    record { later = omega (arith, listed.later, proved.later); unfailed = λ other. proved.unfailed other ∙ listed.unfailed (λ is. cc); notes = proved.notes ∙ listed.notes }
