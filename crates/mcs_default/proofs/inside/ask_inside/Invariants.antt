use Rattle.std.proofs.Common.{◌≡◌, List, map, take}
use Rattle.mcs_system.specs.Plain.{Formula}
use Rattle.mcs_system.specs.Seen.{default_of}
use Rattle.mcs_cnf.specs.Entailments.{entailment_of}
use Rattle.mcs_evidence.specs.Defaults.{AreDenied, negated_justs, defaults_at}
use Rattle.mcs_grounding.specs.Theories.{AreClausesOf}
use Rattle.mcs_default.proofs.inside.ask_inside.Given as goal

abbrev pub invariant-loop-index : goal.invariant-loop-index
invariant-loop-index l = record {
  kept : l.known ≡ l.fn.known;
  denied : (fs : List Formula) → AreClausesOf l.theory.asked.now.atoms.now fs l.fn.known → AreDenied l.theory.asked.now.atoms.now fs (negated_justs (defaults_at 0 (map (λ d. default_of d.now) (take l.index l.theory.defaults.now)) l.set)) (map entailment_of l.allowed.items);
}
