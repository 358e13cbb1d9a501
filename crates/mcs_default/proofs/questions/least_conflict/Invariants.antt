use Rattle.std.proofs.Common.{List}
use Rattle.mcs_system.specs.Plain.{Item}
use Rattle.mcs_default.specs.Searches.{IsConflict}
use Rattle.mcs_default.specs.Asked.{IsSameTheory, IsSearchOf}
use Rattle.mcs_default.proofs.questions.least_conflict.Given as goal

abbrev pub invariant-loop-index : goal.invariant-loop-index
invariant-loop-index l = record {
  kept : IsSameTheory l.fn.search l.search;
  conflict : (items : List Item) → IsSearchOf items l.fn.search → IsConflict items l.least;
}
