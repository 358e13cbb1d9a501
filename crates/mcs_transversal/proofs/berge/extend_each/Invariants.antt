use Rattle.std.proofs.Common.{ℕ, ◌⊎◌, ◌↔◌, drop}
use Rattle.mcs_base.specs.Listings.{IsAmong}
use Rattle.mcs_transversal.specs.Transversals.{ComesOfOne}
use Rattle.mcs_transversal.proofs.berge.extend_each.Given as goal

abbrev pub invariant-loop-t : goal.invariant-loop-t
invariant-loop-t l = (x : ℕ) → ComesOfOne l.edges l.edge l.ts x ↔ (IsAmong x l.out.items ⊎ ComesOfOne l.edges l.edge (drop l.t-index l.ts) x)
