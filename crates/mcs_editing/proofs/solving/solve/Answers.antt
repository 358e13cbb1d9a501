use Rattle.std.proofs.Common.{map, subst, sym}
use Rattle.std.specs.Arc.{arc_value}
use Rattle.mcs_base.proofs.Results.{err_told}
use Rattle.mcs_system.specs.Plain.{System}
use Rattle.mcs_work.specs.declared.task.Task.TheVariants.{Solve}
use Rattle.mcs_listing.specs.Listings.{StopsWork}
use Rattle.mcs_listing.specs.Working.{CanWork}
use Rattle.mcs_listing.proofs.DeviceLemmas.{still}
use Rattle.mcs_listing.proofs.WorkLemmas.{nothing_left}
use Rattle.mcs_editing.proofs.SolvingLemmas.{listing_left, printed_whole, stopped_in, worked_err, worked_ok}
use Rattle.mcs_editing.proofs.solving.solve.Goals as goal

pub work_in_turn-ended-requires : goal.work_in_turn-ended-requires
work_in_turn-ended-requires g c =
    let begun = c.in_ok-begun.begun in
    let can : CanWork Solve (arc_value c.args.system.now) (arc_value begun.plan) begun.budget begun.nodes.list.items = record { begins = c.in_ok-begun.ensures.begins; defined = tt } in
    subst (λ (n : System). CanWork Solve n (arc_value begun.plan) begun.budget begun.nodes.list.items) (sym c.in_ok-listed.ensures.cases) can

pub returns-in_err-listed-clause-stop : goal.returns-in_err-listed-clause-stop
returns-in_err-listed-clause-stop g c = err_told (λ stop. StopsWork stop Solve c.args.budget (arc_value c.args.system.now) _ _ _) _ _ c.from_residual.ensures.1 (nothing_left Solve (arc_value c.args.system.now) (g.K.Sink.device c.args.sink.now).written)

pub returns-in_err-begun-clause-stop : goal.returns-in_err-begun-clause-stop
returns-in_err-begun-clause-stop g c = err_told (λ stop. StopsWork stop Solve c.args.budget (arc_value c.args.system.now) _ _ _) _ _ c.from_residual-in_err-begun.ensures.1 (nothing_left Solve (arc_value c.args.system.now) (g.K.Sink.device c.args.sink.now).written)

pub returns-in_err-listed-clause-sink : goal.returns-in_err-listed-clause-sink
returns-in_err-listed-clause-sink g c = still (g.K.Sink.device c.args.sink.now) _

pub returns-in_err-begun-clause-sink : goal.returns-in_err-begun-clause-sink
returns-in_err-begun-clause-sink g c = still (g.K.Sink.device c.args.sink.now) _

pub returns-in_err-into_oracles-in-Ok-clause-stop : goal.returns-in_err-into_oracles-in-Ok-clause-stop
returns-in_err-into_oracles-in-Ok-clause-stop g c =
    let w = rw (c.in_ok-listed.ensures.cases, c.in_ok-begun.ensures.budget, c.in_ok-begun.ensures.same, c.in-Ok.is) at c.work_in_turn-ended.ensures in
    err_told (λ stop. StopsWork stop Solve c.args.budget (arc_value c.args.system.now) _ _ _) _ _ c.from_residual-in_err-into_oracles-in-Ok.ensures.1
    (listing_left c.args.budget (arc_value c.args.system.now) _ _ (printed_whole (arc_value c.args.system.now) c.args.budget (map g.O.Oracle.stands c.args.oracles.items) _ c.requires.sure (g.K.Sink.device c.args.sink.now) (g.K.Sink.device c.work_in_turn-ended.new.sink) c.in-Ok.field-0 w).text)

pub returns-in_err-into_oracles-in-Ok-clause-sink : goal.returns-in_err-into_oracles-in-Ok-clause-sink
returns-in_err-into_oracles-in-Ok-clause-sink g c =
    let w = rw (c.in_ok-listed.ensures.cases, c.in_ok-begun.ensures.budget, c.in_ok-begun.ensures.same, c.in-Ok.is) at c.work_in_turn-ended.ensures in
    worked_ok (arc_value c.args.system.now) c.args.budget (map g.O.Oracle.stands c.args.oracles.items) _ c.requires.sure (g.K.Sink.device c.args.sink.now) (g.K.Sink.device c.work_in_turn-ended.new.sink) c.in-Ok.field-0 _ w

pub returns-in_ok-into_oracles-in-Ok-clause-sink : goal.returns-in_ok-into_oracles-in-Ok-clause-sink
returns-in_ok-into_oracles-in-Ok-clause-sink g c =
    let w = rw (c.in_ok-listed.ensures.cases, c.in_ok-begun.ensures.budget, c.in_ok-begun.ensures.same, c.in-Ok.is) at c.work_in_turn-ended.ensures in
    worked_ok (arc_value c.args.system.now) c.args.budget (map g.O.Oracle.stands c.args.oracles.items) _ c.requires.sure (g.K.Sink.device c.args.sink.now) (g.K.Sink.device c.work_in_turn-ended.new.sink) c.in-Ok.field-0 _ w

pub returns-in_ok-into_oracles-in-Ok-clause-ok : goal.returns-in_ok-into_oracles-in-Ok-clause-ok
returns-in_ok-into_oracles-in-Ok-clause-ok g c =
    let w = rw (c.in_ok-listed.ensures.cases, c.in_ok-begun.ensures.budget, c.in_ok-begun.ensures.same, c.in-Ok.is) at c.work_in_turn-ended.ensures in
    rw c.in_ok-into_oracles-in-Ok.ensures (printed_whole (arc_value c.args.system.now) c.args.budget (map g.O.Oracle.stands c.args.oracles.items) _ c.requires.sure (g.K.Sink.device c.args.sink.now) (g.K.Sink.device c.work_in_turn-ended.new.sink) c.in-Ok.field-0 w)

pub returns-in-Err-clause-stop : goal.returns-in-Err-clause-stop
returns-in-Err-clause-stop g c =
    let w = rw (c.in_ok-listed.ensures.cases, c.in_ok-begun.ensures.budget, c.in_ok-begun.ensures.same, c.in-Err.is) at c.work_in_turn-ended.ensures in
    rw c.stop_for_work.ensures (stopped_in (arc_value c.args.system.now) c.args.budget (map g.O.Oracle.stands c.args.oracles.items) _ c.requires.sure (g.K.Sink.device c.args.sink.now) (g.K.Sink.device c.work_in_turn-ended.new.sink) c.in-Err.stop w)

pub returns-in-Err-clause-sink : goal.returns-in-Err-clause-sink
returns-in-Err-clause-sink g c =
    let w = rw (c.in_ok-listed.ensures.cases, c.in_ok-begun.ensures.budget, c.in_ok-begun.ensures.same, c.in-Err.is) at c.work_in_turn-ended.ensures in
    worked_err (arc_value c.args.system.now) c.args.budget (map g.O.Oracle.stands c.args.oracles.items) _ c.requires.sure (g.K.Sink.device c.args.sink.now) (g.K.Sink.device c.work_in_turn-ended.new.sink) c.in-Err.stop c.stop_for_work.result c.stop_for_work.ensures w
