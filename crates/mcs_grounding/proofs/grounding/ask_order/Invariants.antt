use Rattle.std.proofs.Common.{List, map}
use Rattle.mcs_sets.specs.Sets.{Within, size, minus}
use Rattle.mcs_system.specs.Plain.{Formula}
use Rattle.mcs_system.specs.Seen.{default_of}
use Rattle.mcs_cnf.specs.Entailments.{entailment_of}
use Rattle.mcs_grounding.specs.Theories.{AreClausesOf}
use Rattle.mcs_cnf.specs.Growing.{HasMoreFormulas}
use Rattle.mcs_grounding.specs.Told.{AreDefaultNumbers}
use Rattle.mcs_grounding.proofs.OrderLemmas.{IsDerived}
use Rattle.mcs_grounding.proofs.grounding.ask_order.Given as goal

abbrev pub invariant-loop-defaults : goal.invariant-loop-defaults
invariant-loop-defaults l = record {
  part : Within l.left l.fn.set;
  grown : HasMoreFormulas l.theory.asked.now.atoms.now l.fn.known l.known;
  numbers : AreDefaultNumbers (minus l.fn.set l.left) l.order.numbers.items;
  derived : (fs : List Formula) → AreClausesOf l.theory.asked.now.atoms.now fs l.fn.known → IsDerived l.theory.asked.now.atoms.now fs (map (λ d. default_of d.now) l.theory.defaults.now) (minus l.fn.set l.left) l.order.numbers.items (map entailment_of l.order.pres.items) l.known;
}

abbrev pub decreases-loop-defaults : goal.decreases-loop-defaults
decreases-loop-defaults l = size l.left
