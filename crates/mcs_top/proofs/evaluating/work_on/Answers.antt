use denote.Param.Send.{sendable}
use Rattle.std.proofs.Crossing.{crosses}
use Rattle.mcs_solver.proofs.Sending.{solver_send}
use Rattle.mcs_top.proofs.evaluating.work_on.Goals as goal

pub work_in_threads-requires-send-O : goal.work_in_threads-requires-send-O
work_in_threads-requires-send-O g c κs within = search (solver_send, crosses, sendable) depth 60 fits 20000
