use Rattle.std.proofs.Common.{◌+◌, ◌*◌, ◌-◌, length}
use Rattle.mcs_syntax.proofs.front.+front_of.Given as goal

abbrev pub decreases-front_of : goal.decreases-front_of
decreases-front_of g l = l.depth * (length l.parts.now + 1) + (length l.parts.now - l.place)
