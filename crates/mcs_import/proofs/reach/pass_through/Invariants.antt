use Rattle.std.proofs.Common.{◌≡◌, ◌++◌, map, take, drop}
use Rattle.mcs_import.specs.Reach.{through}
use Rattle.mcs_import.proofs.reach.pass_through.Given as goal

abbrev pub invariant-loop-row : goal.invariant-loop-row
invariant-loop-row l = l.row-items ≡ map (through l.k l.middle) (take l.row-index l.fn.rows) ++ drop l.row-index l.fn.rows
