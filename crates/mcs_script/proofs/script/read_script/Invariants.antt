use Rattle.std.proofs.Common.{◌-◌, length}
use Rattle.mcs_script.specs.Told.{IsReadUpTo}
use Rattle.mcs_script.proofs.script.read_script.Given as goal

abbrev pub invariant-loop-alloc : goal.invariant-loop-alloc
invariant-loop-alloc l = IsReadUpTo l.system l.bytes l.script

abbrev pub decreases-loop-alloc : goal.decreases-loop-alloc
decreases-loop-alloc l = length l.bytes - l.script.end
