use Rattle.mcs_system.specs.Seen.{rule_of}
use Rattle.mcs_evidence.specs.Programs.{IsOverRule}
use Rattle.mcs_program.specs.Placing.{IsPlacedRule}
use Rattle.mcs_base.proofs.Mapped.{image_each_read}
use Rattle.mcs_base.proofs.Zipped.{zip_take_read}
use Rattle.mcs_program.proofs.placing.placed_rules.Goals as goal

pub of-requires : goal.of-requires
of-requires c = image_each_read (IsOverRule c.args.program.now.atoms.now) rule_of c.args.program.now.rules.now c.loop-rule.rule-index c.rule-item.result c.loop-rule-test.true c.rule-item.is c.args.program.now.rules_over

pub loop-rule-preserved : goal.loop-rule-preserved
loop-rule-preserved c =
    zip_take_read (IsPlacedRule c.args.program.now.atoms.now) rule_of c.args.program.now.rules.now c.loop-rule.rule-index c.rule-item.result c.loop-rule.placed.items c.push.new.self.items c.of.result
    c.loop-rule-test.true c.rule-item.is c.in_ok-push.ensures.items c.loop-rule.invariant c.of.ensures
