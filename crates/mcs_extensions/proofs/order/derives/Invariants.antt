use Rattle.std.proofs.Common.{◌≤◌, length}
use Rattle.mcs_evidence.specs.Defaults.{facts_of}
use Rattle.mcs_cnf.specs.Growing.{HasMoreFormulas}
use Rattle.mcs_asked.specs.Questions.{theory_names, theory_items}
use Rattle.mcs_extensions.proofs.OrderLemmas.{DerivesFrom}
use Rattle.mcs_extensions.proofs.order.derives.Given as goal

abbrev pub invariant-loop-index : goal.invariant-loop-index
invariant-loop-index l = record {
  room : length (theory_names l.theory) ≤ l.known.vars;
  grown : HasMoreFormulas (theory_names l.theory) l.fn.known l.known;
  rest : DerivesFrom (theory_names l.theory) (theory_items l.theory) (facts_of (theory_items l.theory)) l.order l.pres l.known l.index;
}
