use Rattle.std.proofs.Common.{List, sym, subst}
use Rattle.mcs_table.specs.Tables.{ShareNoMark}
use Rattle.mcs_table.specs.declared.row.Row as declared
use Rattle.mcs_reasoning_tests.proofs.tables.have_states.Goals as goal

pub union_states-requires-clause-apart : goal.union_states-requires-clause-apart
union_states-requires-clause-apart c = subst (λ (rows : List declared.Row). ShareNoMark rows c.args.b.now.rows) (sym c.rows.ensures.value) (c.are_apart.ensures.0 c.if-are_apart.true)
