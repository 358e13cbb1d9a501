use Rattle.std.proofs.Common.{◌+◌, ◌*◌, ◌^◌, length}
use Rattle.mcs_search.specs.Searches.{HasRun, work_of}
use Rattle.mcs_engine.specs.Stores.{IsLater}
use Rattle.mcs_search.proofs.searching.search.Given as goal

abbrev pub invariant-loop-left : goal.invariant-loop-left
invariant-loop-left l = record {
  later : IsLater l.fn.state l.state;
  run : HasRun l.state l.found;
}

abbrev pub decreases-loop-left : goal.decreases-loop-left
decreases-loop-left l = l.left * 3 ^ length l.state.trail.positions.items + work_of l.state
