use Rattle.std.proofs.Common.{◌≤◌, length}
use Rattle.mcs_engine.specs.States.{IsFull}
use Rattle.mcs_engine.specs.Stores.{IsLaterGround}
use Rattle.mcs_sat.proofs.flatten.flatten_each.Given as goal

abbrev pub invariant-loop-index : goal.invariant-loop-index
invariant-loop-index l = record {
  later : IsLaterGround l.fn.state l.state;
  full : IsFull l.state;
  longer : length l.fn.state.clauses ≤ length l.state.clauses;
}
