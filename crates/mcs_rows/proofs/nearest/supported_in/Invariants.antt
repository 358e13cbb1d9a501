use Rattle.std.proofs.Common.{◌↔◌, ℕ, take}
use Rattle.mcs_base.specs.Listings.{IsAmong}
use Rattle.mcs_rows.specs.Nearest.{IsSupported}
use Rattle.mcs_rows.proofs.nearest.supported_in.Given as goal

abbrev pub invariant-loop-one : goal.invariant-loop-one
invariant-loop-one l = (τ x : ℕ) → IsSupported l.all.items τ x ↔ IsAmong (record { part = τ; question = x }) (take l.one-index l.one-items)
