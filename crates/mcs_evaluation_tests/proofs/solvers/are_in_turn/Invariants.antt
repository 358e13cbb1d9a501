use Rattle.std.proofs.Common.{◌≡◌}
use Rattle.std.specs.Arc.{arc_value}
use Rattle.mcs_evaluation_tests.proofs.solvers.are_in_turn.Given as goal

abbrev pub invariant-loop-rules : goal.invariant-loop-rules
invariant-loop-rules l = (l.solver.system ≡ arc_value l.system) × (l.solver.context ≡ 0)
