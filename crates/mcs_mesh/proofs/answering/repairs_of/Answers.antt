use Rattle.std.proofs.Common.{List, subst, sym}
use Rattle.mcs_table.specs.Tables.{TableData}
use Rattle.mcs_rows.specs.Local.{AreFittingTables}
use Rattle.mcs_mesh.proofs.answering.repairs_of.Goals as goal

pub minimal_tables-requires-clause-one_each : goal.minimal_tables-requires-clause-one_each
minimal_tables-requires-clause-one_each g c = c.requires.one_each

pub minimal_tables-requires-clause-known : goal.minimal_tables-requires-clause-known
minimal_tables-requires-clause-known g c = (c.level_known-done.ensures c.args.plan.now c.requires).1

pub repairs_in-requires-clause-tables : goal.repairs_in-requires-clause-tables
repairs_in-requires-clause-tables g c = (
  c.level_known-done.result,
  (c.level_known-done.ensures c.args.plan.now c.requires).0,
  subst (λ (ts : List TableData). AreFittingTables c.args.plan.now c.level_known-done.result _ ts) (sym c.deref.ensures.value) c.in_ok-tables.ensures,
)
