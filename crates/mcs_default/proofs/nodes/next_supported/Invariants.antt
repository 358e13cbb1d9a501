use Rattle.std.proofs.Common.{◌≡◌, ◌<◌, ℕ, true, List}
use Rattle.mcs_sets.specs.Sets.{has}
use Rattle.mcs_system.specs.Plain.{Item}
use Rattle.mcs_default.specs.Searches.{IsUnsupportedAt}
use Rattle.mcs_default.specs.Asked.{IsSameTheory, IsSearchOf}
use Rattle.mcs_default.proofs.nodes.next_supported.Given as goal

abbrev pub invariant-loop-index : goal.invariant-loop-index
invariant-loop-index l = record {
  kept : IsSameTheory l.fn.search l.search;
  none : (items : List Item) → IsSearchOf items l.fn.search → (k : ℕ) → k < l.index → has l.left k ≡ true → IsUnsupportedAt items l.set k;
}
