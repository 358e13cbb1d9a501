use Rattle.std.proofs.Common.{◌≡◌, ℕ, Some, slice_get, length}
use Rattle.std.specs.Prelude.{Option}
use Rattle.mcs_grounded.specs.Parts.{IsFoundOf}
use Rattle.mcs_grounded.specs.declared.found.Solver.{Solver}
use Rattle.mcs_grounded.proofs.found.no_solvers.Given as goal

-- so many of the contexts have none
abbrev pub invariant-loop : goal.invariant-loop
invariant-loop l = record {
  one_each : length l.all.items ≡ l.counter;
  own : (i : ℕ) (solver : Option Solver) → slice_get l.all.items i ≡ Some solver → IsFoundOf l.system i solver;
}
