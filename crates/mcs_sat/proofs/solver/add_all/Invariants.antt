use Rattle.std.proofs.Common.{take}
use Rattle.mcs_engine.specs.States.{KeepsTrail}
use Rattle.mcs_sat.specs.Adding.{AreAdded}
use Rattle.mcs_sat.proofs.solver.add_all.Given as goal

abbrev pub invariant-loop-clause : goal.invariant-loop-clause
invariant-loop-clause l = record {
  kept : KeepsTrail l.fn.state l.state;
  added : AreAdded l.fn.state l.state (take l.clause-index l.clauses);
}
