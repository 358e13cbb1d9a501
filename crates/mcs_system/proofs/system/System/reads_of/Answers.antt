use Rattle.std.proofs.Common.{ap, ◌∙◌}
use Rattle.mcs_system.specs.Systems.{variables}
use Rattle.mcs_system.specs.Parts.{rule_part, rule_part_of}
use Rattle.std.specs.Arc.{arc_value}
use Rattle.mcs_system.specs.Built.{made_of}
use Rattle.mcs_system.proofs.system.System.reads_of.Goals as goal
use Rattle.mcs_base.proofs.Lists.{same_image_at}

pub returns-clause-part : goal.returns-clause-part
returns-clause-part c = rw (← c.self.view_is) (λ b is. ap rule_part_of c.index.ensures
    ∙ same_image_at rule_part_of (rule_part (variables (made_of (arc_value c.self.inside.contexts) c.self.inside.bridges.items))) c.self.inside.kept.reads.items _ c.args.rule _ b c.self.invariant.rules_are is)
