use Rattle.std.proofs.Common.{List}
use Rattle.mcs_sets.specs.Sets.{Within, minus, size}
use Rattle.mcs_system.specs.Plain.{Item}
use Rattle.mcs_default.proofs.SearchLemmas.{IsDerivedPart}
use Rattle.mcs_default.specs.Asked.{IsSameTheory, IsSearchOf}
use Rattle.mcs_default.proofs.nodes.is_grounded.Given as goal

abbrev pub invariant-loop-index : goal.invariant-loop-index
invariant-loop-index l = record {
  kept : IsSameTheory l.fn.search l.search;
  part : Within l.part l.set;
  derived : (items : List Item) → IsSearchOf items l.fn.search → IsDerivedPart items l.set l.part;
}

abbrev pub decreases-loop-index : goal.decreases-loop-index
decreases-loop-index l = size (minus l.set l.part)
