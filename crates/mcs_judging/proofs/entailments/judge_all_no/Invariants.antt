use Rattle.std.proofs.Common.{map, IfSome}
use Rattle.mcs_system.specs.Seen.{formula_of}
use Rattle.mcs_cnf.specs.Entailments.{IsModelAt}
use Rattle.mcs_evidence.specs.Defaults.{IsDenied}
use Rattle.mcs_proof_lines.specs.Walks.{no_at}
use Rattle.mcs_judging.proofs.SoFar.{AreJudgedSoFar}
use Rattle.mcs_judging.proofs.entailments.judge_all_no.Given as goal

abbrev pub invariant-loop-formula : goal.invariant-loop-formula
invariant-loop-formula l = record {
  model : IfSome l.model (IsModelAt l.named.asked.now.atoms.now (map (λ f. formula_of f.now) l.premises));
  judged : AreJudgedSoFar (no_at l.named.texts.now) (IsDenied l.named.asked.now.atoms.now (map (λ f. formula_of f.now) l.premises)) (λ f. formula_of f.now) l.goals l.fn.lines l.lines l.formula-index l.are_right;
}
