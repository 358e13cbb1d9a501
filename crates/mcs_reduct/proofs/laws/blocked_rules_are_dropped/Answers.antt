use Rattle.mcs_reduct.proofs.GroundedLaws.{one_rule_set, blocked_are_dropped}
use Rattle.mcs_reduct.proofs.laws.blocked_rules_are_dropped.Goals as goal

pub returns : goal.returns
returns c = record { one = one_rule_set; dropped = blocked_are_dropped }
