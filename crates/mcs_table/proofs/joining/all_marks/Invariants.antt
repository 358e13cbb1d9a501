use Rattle.std.proofs.Common.{◌≡◌, drop}
use Rattle.mcs_sets.specs.Sets.{union}
use Rattle.mcs_table.specs.declared.row.Row as declared
use Rattle.mcs_table.specs.Joins.{union_of}
use Rattle.mcs_table.proofs.joining.all_marks.Given as goal

abbrev pub invariant-loop-row : goal.invariant-loop-row
invariant-loop-row l = union l.marks (union_of (λ (r : declared.Row). r.marks) (drop l.row-index l.rows)) ≡ union_of (λ (r : declared.Row). r.marks) l.rows
