use Rattle.std.proofs.Common.{◌++◌, length}
use Rattle.mcs_trace.specs.Clauses.{IsClause}
use Rattle.mcs_steps.proofs.ChainLemmas.{GoesOn}
use Rattle.mcs_steps.proofs.step.resolve_all.Given as goal

abbrev pub invariant-loop-left : goal.invariant-loop-left
invariant-loop-left l = record {
  clause : IsClause l.current.items;
  on : GoesOn (l.clauses ++ l.derived) l.numbers l.fn.current.items l.left l.current.items;
}

abbrev pub decreases-loop-left : goal.decreases-loop-left
decreases-loop-left l = length l.left
