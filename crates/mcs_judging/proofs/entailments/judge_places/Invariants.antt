use Rattle.std.proofs.Common.{◌≡◌, map}
use Rattle.mcs_system.specs.Seen.{formula_of}
use Rattle.mcs_proof_lines.specs.Walks.{entailment_at}
use Rattle.mcs_judging.proofs.SoFar.{AreToldSoFar}
use Rattle.mcs_judging.proofs.entailments.judge_places.Given as goal

abbrev pub invariant-loop-index : goal.invariant-loop-index
invariant-loop-index l = record {
  kept : l.known ≡ l.fn.known;
  told : AreToldSoFar l.named.asked.now.atoms.now (map (λ f. formula_of f.now) l.premises) (entailment_at l.named.texts.now) (λ f. formula_of f.now) l.named.asked.now.beliefs.now l.fn.lines l.lines l.index l.told;
}
