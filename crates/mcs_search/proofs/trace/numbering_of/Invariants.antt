use Rattle.mcs_search.specs.Numbering.{IsNumbering}
use Rattle.mcs_search.proofs.trace.numbering_of.Given as goal

abbrev pub invariant-loop-index : goal.invariant-loop-index
invariant-loop-index l = IsNumbering l.clauses l.chains l.needed l.index l.numbering
