use Rattle.mcs_system.specs.declared.knowledge.ProgRule.{ProgRule}
use Rattle.std.specs.List.{AllZip}
use Rattle.std.proofs.lemmas.List.{take_all}
use Rattle.mcs_system.specs.Seen.{rule_of}
use Rattle.std.proofs.Common.{IsTrue, List, map, subst}
use Rattle.mcs_evidence.specs.Programs.{IsOverRule}
use Rattle.mcs_reduct.specs.Plain.{has_one_head}
use Rattle.mcs_grounded.specs.Parts.{IsNormalRule}
use Rattle.mcs_base.proofs.Mapped.{image_each_read}
use Rattle.mcs_base.proofs.Zipped.{zip_take_read}
use Rattle.mcs_grounded.proofs.normal.normal_rules.Goals as goal

pub of-requires-clause-over : goal.of-requires-clause-over
of-requires-clause-over c = image_each_read (IsOverRule c.args.atoms.now) rule_of c.args.rules.now c.loop-rule.rule-index c.rule-item.result c.loop-rule-test.true c.rule-item.is c.requires.rules

pub of-requires-clause-one_head : goal.of-requires-clause-one_head
of-requires-clause-one_head c = image_each_read (λ r. IsTrue (has_one_head r)) rule_of c.args.rules.now c.loop-rule.rule-index c.rule-item.result c.loop-rule-test.true c.rule-item.is c.requires.one_head

pub loop-rule-preserved : goal.loop-rule-preserved
loop-rule-preserved c =
    zip_take_read (IsNormalRule c.args.atoms.now) rule_of c.args.rules.now c.loop-rule.rule-index c.rule-item.result c.loop-rule.placed.items c.push.new.self.items c.of.result
    c.loop-rule-test.true c.rule-item.is c.in_ok-push.ensures.items c.loop-rule.invariant c.of.ensures

pub loop-rule-init : goal.loop-rule-init
loop-rule-init c = rw c.new-placed.ensures.items tt

pub bounds-rules-rule-index : goal.bounds-rules-rule-index
bounds-rules-rule-index c = c.loop-rule-test.true

pub returns : goal.returns
returns c = subst (λ (rs : List ProgRule). AllZip (IsNormalRule c.args.atoms.now) (map rule_of rs) c.loop-rule.placed.items) (take_all c.loop-rule.rule-index c.args.rules.now c.loop-rule-test.false) c.loop-rule.invariant
