use Rattle.std.proofs.Common.{take}
use Rattle.mcs_grounded.specs.Parts.{HaveBodiesOf}
use Rattle.mcs_grounded.proofs.normal.with_bodies.Given as goal

abbrev pub invariant-loop-rule : goal.invariant-loop-rule
invariant-loop-rule l = HaveBodiesOf l.rules (take l.rule-index l.rules) l.fn.places l.more
