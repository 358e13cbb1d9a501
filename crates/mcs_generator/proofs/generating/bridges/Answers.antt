use Rattle.std.proofs.Common.{arith}
use Rattle.mcs_generator.proofs.PartLemmas.{rules_go_on}
use Rattle.mcs_generator.proofs.generating.bridges.Goals as goal

pub loop-i-preserved : goal.loop-i-preserved
loop-i-preserved c = rules_go_on c.args.number c.loop-i.bridges.items _ _ _ _ c.loop-i.i (omega arith) c.in_ok-push.ensures.items c.in_ok-push-2.ensures.items c.in_ok-reached_rule.ensures c.in_ok-missed_rule.ensures c.loop-i.invariant
