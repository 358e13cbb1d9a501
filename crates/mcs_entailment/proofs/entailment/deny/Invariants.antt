use Rattle.std.proofs.Common.{map, IfSome}
use Rattle.mcs_system.specs.Seen.{formula_of}
use Rattle.mcs_cnf.specs.Entailments.{entailment_of, IsModelAt}
use Rattle.mcs_evidence.specs.Defaults.{IsDenied}
use Rattle.mcs_entailment.proofs.General.{GoFrom}
use Rattle.mcs_entailment.proofs.entailment.deny.Given as goal

abbrev pub invariant-loop-index : goal.invariant-loop-index
invariant-loop-index l = record {
  model : IfSome l.model (IsModelAt l.asked.atoms.now (map (λ f. formula_of f.now) l.premises));
  rest : GoFrom (IsDenied l.asked.atoms.now (map (λ f. formula_of f.now) l.premises)) (λ f. formula_of f.now) entailment_of l.goals l.entails l.index;
}
