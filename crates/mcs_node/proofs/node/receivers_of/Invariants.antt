use Rattle.std.proofs.Common.{ℕ, ◌<◌, ◌↔◌}
use Rattle.mcs_base.specs.Listings.{IsAmong, IsAscending}
use Rattle.mcs_node.specs.Rounds.{Supplies}
use Rattle.mcs_node.proofs.node.receivers_of.Given as goal

abbrev pub invariant-loop-other : goal.invariant-loop-other
invariant-loop-other l = record {
  known : (j : ℕ) → IsAmong j l.receivers.items ↔ ((j < l.other) × Supplies l.plan l.context j);
  ascending : IsAscending (λ a b. a < b) l.receivers.items;
}
