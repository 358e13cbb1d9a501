use Rattle.std.proofs.Common.{◌∙◌, ap}
use Rattle.mcs_sets.specs.Sets.{common}
use Rattle.mcs_table.proofs.FittingLemmas.{fitting_same, fitting_more, projection_step}
use Rattle.mcs_rows.proofs.FittingLemmas.{projected_as}
use Rattle.mcs_rows.proofs.fitting.fitting_states.Goals.{then-may_restrict+in_ok-projections+in_ok-kept, else-may_restrict}
use Rattle.mcs_rows.proofs.fitting.fitting_states.Goals as goal

pub loop-table-preserved : goal.loop-table-preserved
loop-table-preserved c =
    let set = c.args.variables in
    let t = c.table-item.result in
    let old = c.args.states.items in
    let mid = c.loop-table.kept.items in
    elim c.if-may_restrict.branch [
      | then-may_restrict+in_ok-projections+in_ok-kept w ↦ rw w.kept-is (fitting_more set c.args.tables.now c.loop-table.table-index t c.loop-table-test.true c.table-item.is old mid w.in_ok-kept.kept.items c.loop-table.invariant
          (projection_step t w.scope.ensures.kept set w.in_ok-projections.projections.items mid w.in_ok-kept.kept.items w.in_ok-projections.ensures
          (projected_as mid w.deref.result.now w.in_ok-projections.projections.items w.deref-then-may_restrict.result.now (common set t.scope) w.common.result w.in_ok-kept.kept.items w.deref.ensures.value w.deref-then-may_restrict.ensures.value (w.common.ensures ∙ ap (common set) w.scope.ensures.value) w.in_ok-kept.ensures)))
      | else-may_restrict w ↦ rw w.kept-is (fitting_more set c.args.tables.now c.loop-table.table-index t c.loop-table-test.true c.table-item.is old mid mid c.loop-table.invariant (fitting_same set _ mid))
    ]
