use Rattle.std.proofs.Common.{◌≡◌, drop, map, List, IfSome}
use Rattle.mcs_system.specs.Plain.{Formula}
use Rattle.mcs_system.specs.Seen.{formula_of}
use Rattle.mcs_cnf.specs.ClauseLists.{clause_list, AreOver}
use Rattle.mcs_cnf.specs.Entailments.{IsModelAt}
use Rattle.mcs_classical.proofs.OutputLemmas.{IsShown}
use Rattle.mcs_classical.proofs.beliefs.outputs_in.Given as goal

abbrev pub invariant-loop-number : goal.invariant-loop-number
invariant-loop-number l =
    record {
      kept : l.known ≡ l.fn.known;
      over : AreOver l.given.asked.now.atoms.now (map (λ b. formula_of b.now) (drop l.number l.given.asked.now.beliefs.now));
      shown : (fs : List Formula) → l.fn.known ≡ clause_list l.given.asked.now.atoms.now fs → AreOver l.given.asked.now.atoms.now fs → IsShown (λ b. formula_of b.now) l.given.asked.now.atoms.now fs l.given.asked.now.beliefs.now l.number l.state l.entails.items;
      model : (fs : List Formula) → l.fn.known ≡ clause_list l.given.asked.now.atoms.now fs → AreOver l.given.asked.now.atoms.now fs → IfSome l.model (IsModelAt l.given.asked.now.atoms.now fs);
    }
