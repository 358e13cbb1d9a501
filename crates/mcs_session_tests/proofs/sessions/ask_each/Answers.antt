use Rattle.std.proofs.Common.{◌∙◌, ap, sym}
use Rattle.mcs_system.specs.Imports.{rules_into}
use Rattle.mcs_states.specs.Oracles.{OracleState}
use Rattle.mcs_session_tests.proofs.sessions.ask_each.Goals as goal

pub is_answered-requires : goal.is_answered-requires
is_answered-requires c = c.requires ∙ ap (λ (o : OracleState). rules_into o.system o.context) (sym c.loop-number.invariant)

pub loop-number-preserved : goal.loop-number-preserved
loop-number-preserved c = c.is_answered.ensures ∙ c.loop-number.invariant
