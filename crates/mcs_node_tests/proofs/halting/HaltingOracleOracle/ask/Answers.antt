use Rattle.std.proofs.Common.{subst, rules}
use Rattle.std.specs.Prelude.{OnOk}
use Rattle.mcs_states.specs.Oracles.{OracleState, Lacks}
use Rattle.mcs_node_tests.proofs.halting.HaltingOracleOracle.ask.Goals as goal

pub returns-in-Never-clause-held : goal.returns-in-Never-clause-held
returns-in-Never-clause-held c = subst (λ (o : OracleState). OnOk c.ask.result (¬ Lacks o c.args.active)) {x = c.self.inside.solver} {y = c.args.self.now} (search rules) c.ask.ensures.held
