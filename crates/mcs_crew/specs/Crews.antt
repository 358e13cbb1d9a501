-- What a closure does that plays rounds.
use Rattle.std.specs.Prelude.{ℕ, List, Result}
use Rattle.mcs_system.specs.Plain.{System}
use Rattle.mcs_states.specs.declared.halt.Halt.{Halt}
use Rattle.mcs_node.specs.Nodes.{NodeData}
use Rattle.mcs_mesh.specs.Players.{IsPlayed, IsReadyRound}
use Rattle.mcs_crew.specs.Trails.{IsTrail, TrailData}

-- it may be called with each round that can be played, and what it answers is what is left of this round, with the trail of so many workers; the functions are the parts of the round and of the answer, and `pre` and `post` are what the closure asks and promises
abbrev pub PlaysRounds : {F R S : Type 0} → ℕ → (R → System) → (R → ℕ) → (R → ℕ) → (R → ℕ) → (R → List NodeData) → (S → List NodeData) → (S → Result ℕ Halt) → (S → TrailData) → (F → R → Type 0) → (F → R → S → Type 0) → F → Type 0
PlaysRounds {F} {R} {S} workers plan level budget asked before after total trail pre post f =
    (r : R) → IsReadyRound (plan r) (level r) (budget r) (asked r) (before r) → pre f r
    × ((s : S) → post f r s → IsPlayed (plan r) (level r) (budget r) (before r) (after s) (total s) × IsTrail (plan r) (level r) workers (after s) (total s) (trail s))
