use Rattle.std.proofs.Common.{◌++◌, List, ℕ}
use Rattle.mcs_sets.specs.Sets.{size}
use Rattle.mcs_system.specs.Imports.{FollowsOrder, IsImportOrder}
use Rattle.mcs_import.proofs.OrderLemmas.{AreUntaken}
use Rattle.mcs_import.proofs.order.import_order.Given as goal

abbrev pub invariant-loop-i : goal.invariant-loop-i
invariant-loop-i l = record {
  untaken : AreUntaken l.system l.order.items l.untaken;
  ordered : (rest : List ℕ) → FollowsOrder l.system l.order.items rest → IsImportOrder l.system (l.order.items ++ rest);
}

abbrev pub decreases-loop-i : goal.decreases-loop-i
decreases-loop-i l = size l.untaken
