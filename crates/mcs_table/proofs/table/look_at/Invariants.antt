use Rattle.std.proofs.Common.{take}
use Rattle.std.specs.List.{AllByRecursion}
use Rattle.mcs_base.specs.Partials.{IsPartial}
use Rattle.mcs_table.specs.declared.row.Row as declared
use Rattle.mcs_table.proofs.table.look_at.Given as goal

abbrev pub invariant-loop-row : goal.invariant-loop-row
invariant-loop-row l = AllByRecursion (λ (r : declared.Row). IsPartial r.state) (take l.row-index l.rows)
