use Rattle.std.proofs.Common.{map, arith}
use Rattle.mcs_system.specs.Seen.{rule_of}
use Rattle.mcs_generator.specs.Generated.{link_rule}
use Rattle.mcs_base.proofs.Mapped.{map-range_grows_from_2}
use Rattle.mcs_generator.proofs.knowledge.add_link_rules.Goals as goal

pub loop-link-preserved : goal.loop-link-preserved
loop-link-preserved c = map-range_grows_from_2 rule_of link_rule (map rule_of c.args.rules.now.items) c.loop-link.rules.items _ _ c.loop-link.link (omega arith) c.in_ok-push.ensures.items c.in_ok-link_rule.ensures c.loop-link.invariant
