use Rattle.std.proofs.Common.{◌<◌, ℕ, List}
use Rattle.mcs_system.specs.Plain.{Item}
use Rattle.mcs_default.specs.Searches.{IsOpenAt}
use Rattle.mcs_default.specs.Asked.{IsSameTheory, IsSearchOf}
use Rattle.mcs_default.proofs.nodes.are_open.Given as goal

abbrev pub invariant-loop-index : goal.invariant-loop-index
invariant-loop-index l = record {
  kept : IsSameTheory l.fn.search l.search;
  each_open : (items : List Item) → IsSearchOf items l.fn.search → (k : ℕ) → k < l.index → IsOpenAt items l.taken.set l.all.set k;
}
