use Rattle.std.proofs.Common.{take}
use Rattle.mcs_grounded.specs.Parts.{HaveHeadsOf}
use Rattle.mcs_grounded.proofs.normal.with_heads.Given as goal

abbrev pub invariant-loop-rule : goal.invariant-loop-rule
invariant-loop-rule l = HaveHeadsOf l.rules (take l.rule-index l.rules) l.against l.fn.places l.more
