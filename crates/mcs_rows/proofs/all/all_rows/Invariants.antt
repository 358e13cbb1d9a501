use Rattle.std.proofs.Common.{◌≡◌, [], take}
use Rattle.std.specs.List.{flat_map}
use Rattle.mcs_rows.specs.Making.{rows_of}
use Rattle.mcs_rows.proofs.all.all_rows.Given as goal

abbrev pub invariant-loop-state : goal.invariant-loop-state
invariant-loop-state l = l.all.items ≡ flat_map (rows_of l.system l.i l.level [] l.answers) (take l.state-index l.states)
