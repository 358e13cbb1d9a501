use Rattle.mcs_search.specs.Parts.{IsGathered}
use Rattle.mcs_search.proofs.part.take_reasons.Given as goal

abbrev pub invariant-loop-entry : goal.invariant-loop-entry
invariant-loop-entry l = IsGathered l.whole l.part.state l.part.numbers.items
