use Rattle.std.proofs.Common.{List}
use Rattle.mcs_sets.specs.Sets.{minus, size, Within}
use Rattle.mcs_system.specs.Logic.{BeliefSet}
use Rattle.mcs_system.specs.Systems.{applicable}
use Rattle.mcs_reduct.specs.Reducts.{IsReductEquilibrium}
use Rattle.mcs_reduct.specs.Shown.{DoAct, IsShownBy}
use Rattle.mcs_grounded.specs.Derivations.{AreAbove}
use Rattle.mcs_grounded.specs.Parts.{AreAllFound, cones_of}
use Rattle.mcs_grounded.proofs.derivation.derive.Given as goal

abbrev pub invariant-loop-believed : goal.invariant-loop-believed
invariant-loop-believed l = record {
  found : AreAllFound l.derivation.system.now l.found;
  within : Within l.rules (applicable l.derivation.system.now l.derivation.state);
  founded : (s t : List BeliefSet) → IsShownBy l.derivation.system.now l.derivation.state s → AreAbove l.derivation.system.now (cones_of l.derivation.cones.now) l.against s
      → IsReductEquilibrium l.derivation.system.now s t → DoAct l.derivation.system.now t l.rules;
}

abbrev pub decreases-loop-believed : goal.decreases-loop-believed
decreases-loop-believed l = size (minus (applicable l.derivation.system.now l.derivation.state) l.rules)
