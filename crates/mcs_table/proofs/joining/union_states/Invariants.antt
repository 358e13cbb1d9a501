use Rattle.std.proofs.Common.{take}
use Rattle.mcs_table.proofs.JoinLemmas.{AreUnionStates}
use Rattle.mcs_table.proofs.joining.union_states.Given as goal

abbrev pub invariant-loop-row : goal.invariant-loop-row
invariant-loop-row l = AreUnionStates (take l.row-index l.rows) l.t.rows l.level l.states.items
