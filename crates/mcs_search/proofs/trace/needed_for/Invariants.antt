use Rattle.std.proofs.Common.{◌≡◌, ◌≤◌, length}
use Rattle.mcs_search.specs.Numbering.{AreMarked, AreChainsMarked}
use Rattle.mcs_search.proofs.trace.needed_for.Given as goal

abbrev pub invariant-loop-index : goal.invariant-loop-index
invariant-loop-index l = record {
  sized : length l.needed.items ≡ length l.chains;
  within : l.index ≤ length l.chains;
  last : AreMarked l.needed.items l.last;
  closed : AreChainsMarked l.chains l.needed.items l.index;
}

abbrev pub decreases-loop-index : goal.decreases-loop-index
decreases-loop-index l = l.index
