use Rattle.std.proofs.Common.{◌+◌, ◌-◌, length}
use Rattle.mcs_cheapest.specs.Searching.{IsSearching}
use Rattle.mcs_cheapest.proofs.searching.take_levels.Given as goal

abbrev pub invariant-loop-alloc : goal.invariant-loop-alloc
invariant-loop-alloc g l = IsSearching (g.E.Evaluator.stands l.fn.levels.evaluator) (g.E.Evaluator.stands l.levels.evaluator) l.levels.level l.pairs.items l.least

abbrev pub decreases-loop-alloc : goal.decreases-loop-alloc
decreases-loop-alloc g l = (length l.system.bridges + 1) - l.levels.level
