use Rattle.std.proofs.Common.{ℕ, ◌⊎◌, ◌↔◌}
use Rattle.mcs_sets.specs.Sets.{members}
use Rattle.mcs_base.specs.Listings.{IsAmong}
use Rattle.mcs_transversal.proofs.BergeLemmas.{GrowsBy}
use Rattle.mcs_transversal.proofs.berge.grow_by_edges.Given as goal
use Rattle.mcs_base.proofs.SetParts.{AreBelow}

abbrev pub invariant-loop-mark : goal.invariant-loop-mark
invariant-loop-mark l = record {
  below : AreBelow 128 l.mark-iterator;
  put : (x : ℕ) → (IsAmong x l.fn.out.items ⊎ GrowsBy l.edges l.t (members l.fn.edge) x) ↔ (IsAmong x l.out.items ⊎ GrowsBy l.edges l.t l.mark-iterator x);
}
