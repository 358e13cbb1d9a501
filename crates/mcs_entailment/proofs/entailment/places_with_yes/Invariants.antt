use Rattle.std.proofs.Common.{map}
use Rattle.mcs_cnf.specs.Classical.{HasYes}
use Rattle.mcs_cnf.specs.Entailments.{entailment_of}
use Rattle.mcs_entailment.proofs.General.{AreGathered}
use Rattle.mcs_entailment.proofs.entailment.places_with_yes.Given as goal

abbrev pub invariant-loop-index : goal.invariant-loop-index
invariant-loop-index l = AreGathered (HasYes (map entailment_of l.entails)) l.places l.index
