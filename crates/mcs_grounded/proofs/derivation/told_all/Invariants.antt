use Rattle.mcs_grounded.specs.Parts.{AreAllFound, cones_of}
use Rattle.mcs_grounded.proofs.Telling.{AreToldBelow}
use Rattle.mcs_grounded.proofs.derivation.told_all.Given as goal

-- the contexts before were asked
abbrev pub invariant-loop-context : goal.invariant-loop-context
invariant-loop-context l = record {
  found : AreAllFound l.derivation.system.now l.found;
  told : AreToldBelow l.derivation.system.now l.derivation.state (cones_of l.derivation.cones.now) l.against l.rules l.context l.believed;
}
