use Rattle.std.proofs.Common.{take}
use Rattle.mcs_mesh.proofs.TableLemmas.{AreSomeFitting}
use Rattle.mcs_mesh.proofs.tables.minimal_tables.Given as goal

abbrev pub invariant-loop-i : goal.invariant-loop-i
invariant-loop-i g l = AreSomeFitting l.plan l.level l.pairs (take l.i-index l.i-items) l.tables.items
