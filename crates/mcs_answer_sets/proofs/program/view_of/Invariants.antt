use Rattle.std.proofs.Common.{map}
use Rattle.mcs_system.specs.Plain.{Atom}
use Rattle.mcs_system.specs.Logic.{true_names}
use Rattle.mcs_entailment.proofs.General.{AreGathered}
use Rattle.mcs_answer_sets.proofs.ModelLemmas.{IsBelievedAt}
use Rattle.mcs_answer_sets.proofs.program.view_of.Given as goal

abbrev pub invariant-loop-k : goal.invariant-loop-k
invariant-loop-k l = AreGathered (IsBelievedAt (true_names 0 l.program.atoms.now l.places) (map Atom (map (λ b. b.now) l.program.beliefs.now))) l.view l.k
