-- What an oracle that halts stands for.
use Rattle.std.specs.Prelude.{[], Some}
use Rattle.mcs_states.specs.Oracles.{OracleState}
use Rattle.mcs_node_tests.specs.declared.halting.Halting.{Halting}
use Rattle.mcs_node_tests.specs.declared.halting.Halting.TheVariants.{Never, ByLack, ByMemory}

-- one that lacks every answer holds none; else it is as the solver
abbrev pub held_by : Halting → OracleState → OracleState
held_by Never o = o
held_by ByLack o = record o { holds = Some [] }
held_by ByMemory o = o
