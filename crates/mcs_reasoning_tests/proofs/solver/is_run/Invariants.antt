use Rattle.std.proofs.Common.{◌≡◌}
use Rattle.mcs_reasoning_tests.proofs.solver.is_run.Given as goal

abbrev pub invariant-loop-literal : goal.invariant-loop-literal
invariant-loop-literal l = l.vars ≡ l.solver.vars
