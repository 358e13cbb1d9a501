use Rattle.std.proofs.Common.{◌≡◌, ℕ, List, [], Option, Some, None, ap, subst, ◌∙◌}
use Rattle.std.specs.Arc.{arc_value}
use Rattle.mcs_system.specs.Plain.{System}
use Rattle.mcs_states.specs.Evaluators.{EvaluatorState, KeepsRest}
use Rattle.mcs_states.specs.Oracles.{OracleState}
use Rattle.mcs_ports.specs.Pieces.{Device}
use Rattle.mcs_work.specs.Work.{IsDone, HasStopped}
use Rattle.mcs_work.specs.declared.task.Task.TheVariants.{Solve}
use Rattle.mcs_check.specs.Collected.{Collected}
use Rattle.mcs_recall.specs.Told.{IsToldOf}
use Rattle.mcs_check.specs.Relisting.{start_of}
use Rattle.mcs_check.proofs.RelistingLemmas.{renewed_same, told_listing, told_stop, told_missing}
use Rattle.mcs_check.proofs.relisting.listing_by.Goals as goal

pub evaluator_of-requires-clause-told : goal.evaluator_of-requires-clause-told
evaluator_of-requires-clause-told c = c.new.ensures (arc_value c.args.system)

pub missing-requires : goal.missing-requires
missing-requires c =
    let m : System = arc_value c.args.system in
    let os : List OracleState = c.args.oracles.items in
    let before : Device = record { written = Some c.new-sink.result.text; notes = None; faults = c.new-sink.result.faults } in
    let now : Device = record { written = Some c.work-worked.new.sink.text; notes = None; faults = c.work-worked.new.sink.faults } in
    told_stop m os c.requires.own.one_each c.work-worked.result.1 c.requires.valid before now c.in-Err.stop
    (subst (λ (e : EvaluatorState). HasStopped Solve [] e c.work-worked.result.1 before now c.in-Err.stop) (c.in_ok-recalling.ensures) (rw c.in-Err.is at c.work-worked.ensures.stop))

pub returns-in-Ok : goal.returns-in-Ok
returns-in-Ok c =
    let m : System = arc_value c.args.system in
    let os : List OracleState = c.args.oracles.items in
    let e = c.work-worked.result.1 in
    let text = c.work-worked.new.sink.text in
    let empty : ◌≡◌ {A = Option (List ℕ)} (Some c.new-sink.result.text) (Some []) = ap (λ (s : Collected). Some s.text) c.new-sink.ensures in
    let told = told_listing m os c.requires.own.one_each e text
    (subst (λ (before : Option (List ℕ)). IsDone Solve [] (start_of m os) e before (Some text)) empty
    (subst (λ (b : EvaluatorState). IsDone Solve [] b e (Some c.new-sink.result.text) (Some text)) (c.in_ok-recalling.ensures) (rw c.in-Ok.is at c.work-worked.ensures.done))) in
    let kept = subst (λ (b : EvaluatorState). KeepsRest b e) (c.in_ok-recalling.ensures) c.work-worked.ensures.rest in
    record {
      whole = told.0;
      hold = told.1;
      same = renewed_same m os c.in_ok-into_oracles-in-Ok.field-0.items c.in_ok-oracles-in-Ok.oracles.items e c.requires.own.fresh kept (c.in_ok-into_oracles-in-Ok.ensures ∙ ap (λ (b : EvaluatorState). b.oracles) c.into_parts-mesh.ensures.stands) c.in_ok-oracles-in-Ok.ensures;
      right = subst (λ (s : System). IsToldOf s c.into_parts-mesh.result.1) kept.system c.into_parts-mesh.ensures.told;
    }

pub returns : goal.returns
returns c =
    let m : System = arc_value c.args.system in
    let os : List OracleState = c.args.oracles.items in
    let before : Device = record { written = Some c.new-sink.result.text; notes = None; faults = c.new-sink.result.faults } in
    let now : Device = record { written = Some c.work-worked.new.sink.text; notes = None; faults = c.work-worked.new.sink.faults } in
    told_missing m os c.requires.own.one_each c.work-worked.result.1 before now c.in-Err.stop
    (subst (λ (e : EvaluatorState). HasStopped Solve [] e c.work-worked.result.1 before now c.in-Err.stop) (c.in_ok-recalling.ensures) (rw c.in-Err.is at c.work-worked.ensures.stop))
    c.in_ok-missing-in-Err.ensures.missing
