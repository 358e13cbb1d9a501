use Rattle.std.proofs.Common.{subst}
use Rattle.std.specs.Prelude.{Option, IfSome}
use Rattle.mcs_grounded.specs.Parts.{IsSolverOf}
use Rattle.mcs_grounded.specs.declared.found.Solver.{Solver}
use Rattle.mcs_grounded.proofs.found.ask.Goals as goal

-- the solver is the one that was kept
pub tell-requires : goal.tell-requires
tell-requires c = record {
  formulas = _;
  classical = c.requires.classical;
  own = subst (λ (o : Option Solver). IfSome o (IsSolverOf c.args.system.now c.args.context)) c.in-Some.is c.requires.known;
}
