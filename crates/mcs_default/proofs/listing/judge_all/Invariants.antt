use Rattle.std.proofs.Common.{◌≡◌, List, map}
use Rattle.mcs_system.specs.Plain.{Item}
use Rattle.mcs_system.specs.Seen.{default_of, formula_of}
use Rattle.mcs_evidence.specs.Defaults.{verdict_of}
use Rattle.mcs_grounding.specs.Theories.{AreParts}
use Rattle.mcs_default.proofs.JudgeLemmas.{AreJudged}
use Rattle.mcs_default.proofs.listing.judge_all.Given as goal

abbrev pub invariant-loop-number : goal.invariant-loop-number
invariant-loop-number l = record {
  kept : l.known ≡ l.fn.known;
  judged : (items : List Item) → AreParts l.theory.asked.now.atoms.now items (map (λ d. default_of d.now) l.theory.defaults.now) l.fn.known → AreJudged l.theory.asked.now.atoms.now items (map (λ b. formula_of b.now) l.theory.asked.now.beliefs.now) l.number l.views.items (map verdict_of l.sets.items);
}
