use Rattle.std.proofs.Common.{◌+◌, ◌∙◌, ap, drop}
use Rattle.mcs_sets.specs.Sets.{union}
use Rattle.mcs_sets.proofs.Lattice.{none-union}
use Rattle.mcs_base.proofs.Each.{all_take_more}
use Rattle.mcs_table.specs.Joins.{union_of}
use Rattle.mcs_table.specs.Tables.{TableData, IsTable}
use Rattle.mcs_joint.proofs.General.{union_of_more, union_of_end}
use Rattle.mcs_joint.proofs.order.scopes.Goals as goal

pub loop-table-init : goal.loop-table-init
loop-table-init c = (ap (λ n. union n (union_of (λ (t : TableData). t.scope) c.args.tables.now)) c.empty-all.ensures ∙ none-union _, tt)

pub loop-table-preserved : goal.loop-table-preserved
loop-table-preserved c =
    let ts = c.args.tables.now in
    let i = c.loop-table.table-index in
    let scope = λ (t : TableData). t.scope in
    let e = c.union-all.ensures ∙ ap (union c.loop-table.all) c.scope.ensures.value in
    let more = union_of_more scope ts i c.loop-table.all c.table-item.result c.loop-table-test.true c.table-item.is c.loop-table.invariant.0 in
    (ap (λ n. union n (union_of scope (drop (i + 1) ts))) e ∙ more, all_take_more IsTable ts i c.table-item.result c.loop-table-test.true c.table-item.is c.loop-table.invariant.1 c.scope.ensures.kept)

pub returns-clause-value : goal.returns-clause-value
returns-clause-value c = union_of_end (λ (t : TableData). t.scope) c.args.tables.now c.loop-table.table-index c.loop-table.all c.loop-table-test.false c.loop-table.invariant.0
