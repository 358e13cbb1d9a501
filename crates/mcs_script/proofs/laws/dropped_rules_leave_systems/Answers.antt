use Rattle.mcs_system.proofs.FewerRules.{without_rule_is_valid}
use Rattle.mcs_script.proofs.laws.dropped_rules_leave_systems.Goals as goal

pub returns : goal.returns
returns c m rule valid = without_rule_is_valid m rule valid
