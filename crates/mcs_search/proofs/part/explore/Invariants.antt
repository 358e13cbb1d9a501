use Rattle.mcs_search.specs.Searches.{HasRun}
use Rattle.mcs_engine.specs.Stores.{IsLater}
use Rattle.mcs_search.proofs.part.explore.Given as goal

abbrev pub invariant-loop : goal.invariant-loop
invariant-loop l = record {
  later : IsLater l.fn.state l.state;
  run : HasRun l.state l.found;
}
