use Rattle.mcs_search.specs.Parts.{IsGathered}
use Rattle.mcs_search.proofs.part.take_some.Given as goal

abbrev pub invariant-loop-index : goal.invariant-loop-index
invariant-loop-index l = IsGathered l.whole l.part.state l.part.numbers.items
