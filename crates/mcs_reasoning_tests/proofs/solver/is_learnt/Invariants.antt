use Rattle.std.proofs.Common.{◌≡◌}
use Rattle.mcs_reasoning_tests.proofs.solver.is_learnt.Given as goal

abbrev pub invariant-loop-index : goal.invariant-loop-index
invariant-loop-index l = l.vars ≡ l.solver.vars
