use Rattle.std.proofs.Common.{◌≡◌, ◌++◌, map, take, drop}
use Rattle.std.specs.Arc.{arc_value}
use Rattle.mcs_session.specs.Sessions.{of_system}
use Rattle.mcs_session.proofs.session.renew_all.Given as goal

abbrev pub invariant-loop-oracle : goal.invariant-loop-oracle
invariant-loop-oracle g l = l.oracles ≡ map (of_system (arc_value l.system)) (take l.oracle-index l.initial.oracles) ++ drop l.oracle-index l.initial.oracles
