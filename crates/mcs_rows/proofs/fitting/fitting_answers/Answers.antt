use Rattle.std.proofs.Common.{◌∙◌, ap, subst, List, ℕ}
use Rattle.std.specs.List.{AllZip}
use Rattle.mcs_sets.specs.Sets.{common}
use Rattle.mcs_rows.specs.Fitting.{HasProjectedParts}
use Rattle.mcs_rows.specs.declared.answer.Answer.{Answer}
use Rattle.mcs_rows.proofs.FittingLemmas.{copies_fit, parts_same, parts_more}
use Rattle.mcs_rows.proofs.fitting.fitting_answers.Goals.{then-may_restrict+in_ok-projections+in_ok-kept-2, else-may_restrict}
use Rattle.mcs_rows.proofs.fitting.fitting_answers.Goals as goal

pub loop-table-init : goal.loop-table-init
loop-table-init c = copies_fit c.args.variables c.args.answers.now c.in_ok-kept.kept.items c.in_ok-kept.ensures

pub loop-table-preserved : goal.loop-table-preserved
loop-table-preserved c =
    let set = c.args.variables in
    let t = c.table-item.result in
    let answers = c.args.answers.now in
    let mid = c.loop-table.kept.items in
    elim c.if-may_restrict.branch [
      | then-may_restrict+in_ok-projections+in_ok-kept-2 w ↦ rw w.kept-is (parts_more set c.args.tables.now c.loop-table.table-index t c.loop-table-test.true c.table-item.is w.scope.ensures.kept w.in_ok-projections.projections.items w.in_ok-projections.ensures answers mid w.in_ok-kept-2.kept.items c.loop-table.invariant
          (subst (λ (xs : List Answer). AllZip (HasProjectedParts w.in_ok-projections.projections.items (common set t.scope)) xs w.in_ok-kept-2.kept.items) w.deref.ensures.value
          (subst (λ (ys : List ℕ). AllZip (HasProjectedParts ys (common set t.scope)) w.deref.result.now w.in_ok-kept-2.kept.items) w.deref-then-may_restrict.ensures.value
          (subst (λ (z : ℕ). AllZip (HasProjectedParts w.deref-then-may_restrict.result.now z) w.deref.result.now w.in_ok-kept-2.kept.items) (w.common.ensures ∙ ap (common set) w.scope.ensures.value) w.in_ok-kept-2.ensures))))
      | else-may_restrict w ↦ rw w.kept-is (parts_same set c.args.tables.now c.loop-table.table-index t c.loop-table-test.true c.table-item.is answers mid c.loop-table.invariant)
    ]
