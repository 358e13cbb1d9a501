use Rattle.std.proofs.Common.{◌≡◌, ◌∙◌, ap, sym, subst, List, [], ◌∷◌, map}
use Rattle.mcs_sets.specs.Sets.{union}
use Rattle.mcs_table.specs.declared.row.Row.{Row}
use Rattle.mcs_table.specs.Tables.{TableData, ShareNoMark, unit_row}
use Rattle.mcs_joint.proofs.Uniting.{united_begin, united_apart, united_more, united_end}
use Rattle.mcs_joint.proofs.first.few_states.Goals as goal

pub loop-table-init : goal.loop-table-init
loop-table-init c =
    let rows : c.in_ok-all.all.items ≡ unit_row ∷ [] = c.in_ok-all.ensures.items ∙ (c.rows.ensures.value ∙ ap (λ (t : TableData). t.rows) c.in_ok-unit.ensures) in
    rw (c.empty-seen.ensures, rows) (united_begin c.args.level c.args.tables.now)

pub unions-requires-clause-apart : goal.unions-requires-clause-apart
unions-requires-clause-apart c = subst (λ (xs : List Row). ShareNoMark xs c.table-item.result.rows) (sym c.deref.ensures.value) (united_apart c.args.level c.args.tables.now c.loop-table.table-index c.loop-table.seen c.loop-table.all.items c.table-item.result c.loop-table-test.true c.table-item.is c.loop-table.invariant)

pub loop-table-preserved : goal.loop-table-preserved
loop-table-preserved c =
    let unions = rw c.deref.ensures.value at c.in_ok-all-2.ensures in
    let seen : c.union-seen.result ≡ union c.loop-table.seen c.table-item.result.scope = c.union-seen.ensures ∙ ap (union c.loop-table.seen) c.scope.ensures.value in
    rw seen (united_more c.args.level c.args.tables.now c.loop-table.table-index c.loop-table.seen c.loop-table.all.items c.table-item.result c.loop-table-test.true c.table-item.is c.loop-table.invariant c.scope.ensures.kept c.requires.apart c.in_ok-all-2.all.items unions)

pub returns : goal.returns
returns c = (
  c.loop-table.all.items,
  united_end c.args.level c.args.tables.now c.loop-table.table-index c.loop-table.seen c.loop-table.all.items c.loop-table-test.false c.loop-table.invariant c.requires.tables,
  c.in_ok-states.ensures ∙ ap (map (λ (r : Row). r.state.values)) c.deref-2.ensures.value,
)
