use Rattle.std.proofs.Common.{◌≡◌, List, map, take}
use Rattle.mcs_system.specs.Plain.{Formula, Not}
use Rattle.mcs_system.specs.Seen.{formula_of}
use Rattle.mcs_cnf.specs.Entailments.{entailment_of}
use Rattle.mcs_evidence.specs.Defaults.{AreDenied}
use Rattle.mcs_grounding.specs.Theories.{AreClausesOf}
use Rattle.mcs_default.proofs.asking.ask_justs.Given as goal

abbrev pub invariant-loop-index : goal.invariant-loop-index
invariant-loop-index l = record {
  kept : l.known ≡ l.fn.known;
  denied : (fs : List Formula) → AreClausesOf l.theory.asked.now.atoms.now fs l.fn.known → AreDenied l.theory.asked.now.atoms.now fs (map Not (map formula_of (take l.index l.justs))) (map entailment_of l.allowed.items);
}
