use Rattle.std.proofs.Common.{◌≡◌, [], map}
use Rattle.std.specs.Arc.{arc_value}
use Rattle.std.specs.List.{range_with_len}
use Rattle.mcs_solver.specs.Solvers.{solver_with}
use Rattle.mcs_listing.proofs.beginning.solvers_of.Given as goal

abbrev pub invariant-loop-context : goal.invariant-loop-context
invariant-loop-context l = l.solvers.items ≡ map (λ i. solver_with l.keep (arc_value l.system) i []) (range_with_len 0 l.context)
