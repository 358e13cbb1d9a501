use Rattle.std.proofs.Common.{◌+◌, ◌-◌, vec_len}
use Rattle.mcs_engine.proofs.filling.fill.Given as goal

abbrev pub decreases-loop-value : goal.decreases-loop-value
decreases-loop-value g l = l.index + 1 - vec_len l.values
