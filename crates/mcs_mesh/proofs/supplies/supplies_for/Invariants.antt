use Rattle.std.proofs.Common.{◌≡◌, Vec, Global, ℕ, map, take}
use Rattle.mcs_mesh.specs.Players.{known_to}
use Rattle.mcs_mesh.specs.Rounds.{supplies_at}
use Rattle.mcs_mesh.proofs.supplies.supplies_for.Given as goal

abbrev pub invariant-loop-j : goal.invariant-loop-j
invariant-loop-j g l = map (λ (supply : Vec ℕ Global). supply.items) l.told.items ≡ supplies_at (known_to l.nodes) (take l.j-index l.j-items)
