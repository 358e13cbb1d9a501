use Rattle.std.proofs.Common.{◌++◌, ◌↔◌, take, drop, map}
use Rattle.mcs_trace.specs.Traces.{AreRightSteps, inference_of, clauses_of}
use Rattle.mcs_trace.proofs.checker.are_right.Given as goal

abbrev pub invariant-loop-index : goal.invariant-loop-index
invariant-loop-index l =
    AreRightSteps l.clauses (map inference_of l.steps) ↔ AreRightSteps (l.clauses ++ clauses_of (take l.index l.steps)) (map inference_of (drop l.index l.steps))
