-- What may go to another thread: the solver of a context.
use denote.Param.Send.{AllSend, IsSend, IsSync, recorded_send, sendable, struct_send, view_send}
use denote.Struct.Declared.{shape}
use Rattle.std.proofs.Crossing.{crosses}
use Rattle.std.proofs.MapsCrossing as maps
use Rattle.mcs_system.proofs.formula.Formula.TheLaws.TheKnot as formula
use Rattle.mcs_system.specs.contracts.system.System as system
use Rattle.mcs_sat.specs.contracts.base.ClauseBase as clause_base
use Rattle.mcs_solver.specs.contracts.known.Known as known
use Rattle.mcs_keeping.specs.contracts.keeping.Kept as kept
use Rattle.mcs_solver.specs.contracts.solver.LocalSolver as solver
use Rattle.mcs_solver.specs.contracts.solver.LocalSolver.TheInside as inside

system_send : IsSend system.the_row
system_send = search (formula.crosses, crosses, sendable) depth 60 fits 20000

system_sync : IsSync system.the_row
system_sync = search (formula.crosses, crosses, sendable) depth 60 fits 20000

clause_base_send : IsSend clause_base.the_row
clause_base_send = search (crosses, sendable) depth 60 fits 20000

known_send : IsSend known.the_row
known_send = search (clause_base_send, crosses, sendable) depth 60 fits 20000

kept_send : IsSend kept.the_row
kept_send = search (crosses, sendable) depth 60 fits 20000

-- the fields of a solver, in order
in_solver_send : AllSend (shape inside.the_type).fields
in_solver_send = (
  search (system_send, system_sync, crosses, sendable) depth 60 fits 20000,
  (
    search sendable depth 60 fits 20000,
    (
      search (known_send, crosses, sendable) depth 60 fits 20000,
      (search (crosses, sendable) depth 60 fits 20000, (search sendable depth 60 fits 20000, (search (kept_send, maps.crosses, crosses, sendable) depth 60 fits 20000, (search (known_send, crosses, sendable) depth 60 fits 20000, tt)))),
    ),
  ),
)

pub solver_send : IsSend solver.the_row
solver_send = view_send inside.the_row _ _ _ _ (recorded_send inside.the_field.row _ _ inside.the_type.to_one (struct_send (shape inside.the_type) in_solver_send))
