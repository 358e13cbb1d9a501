use Rattle.mcs_table.specs.declared.row.Row as declared
use Rattle.std.specs.List.{AllByRecursion}
use Rattle.std.proofs.Common.{subst}
use Rattle.mcs_base.specs.Partials.{IsPartial}
use Rattle.mcs_table.proofs.TableLemmas.{sorted_rows, table_of_rows}
use Rattle.mcs_table.proofs.table.Table.new.Goals as goal

pub returns-clause-rows : goal.returns-clause-rows
returns-clause-rows c = sorted_rows c.args.scope _ _ c.requires c.list_rows.ensures

pub invariant_of-result : goal.invariant_of-result
invariant_of-result c =
    let partial = subst (λ xs. AllByRecursion (λ (r : declared.Row). IsPartial r.state) xs) c.deref.ensures.value c.look_at.ensures in
    table_of_rows c.args.scope _ _ c.requires partial (sorted_rows c.args.scope _ _ c.requires c.list_rows.ensures)

pub returns-clause-kept : goal.returns-clause-kept
returns-clause-kept c =
    let partial = subst (λ xs. AllByRecursion (λ (r : declared.Row). IsPartial r.state) xs) c.deref.ensures.value c.look_at.ensures in
    table_of_rows c.args.scope _ _ c.requires partial (sorted_rows c.args.scope _ _ c.requires c.list_rows.ensures)
