use Rattle.std.proofs.Common.{◌↔◌, ◌∷◌, ℕ, [], map, drop}
use Rattle.mcs_import.specs.States.{SomeJoins}
use Rattle.mcs_import.proofs.states.supplied_states.Given as goal

abbrev pub invariant-loop-supply : goal.invariant-loop-supply
invariant-loop-supply l = (ρ : ℕ) → SomeJoins l.mask (map (λ supply. supply.items) (drop l.supply-index l.supplies)) l.states.items ρ ↔ SomeJoins l.mask (map (λ supply. supply.items) l.supplies) (0 ∷ []) ρ
