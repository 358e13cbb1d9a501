use Rattle.std.proofs.Common.{take, ℕ, ◌↔◌}
use Rattle.mcs_base.specs.Listings.{IsAmong}
use Rattle.mcs_base.specs.Minimal.{IsMinimal}
use Rattle.mcs_base.specs.Transversals.{IsTransversalOf}
use Rattle.mcs_transversal.proofs.berge.minimal_transversals.Given as goal

abbrev pub invariant-loop-index : goal.invariant-loop-index
invariant-loop-index l = (x : ℕ) → IsAmong x l.current.items ↔ IsMinimal (IsTransversalOf (take l.index l.edges)) x
