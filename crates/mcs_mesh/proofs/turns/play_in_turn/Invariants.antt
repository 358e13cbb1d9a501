use Rattle.std.proofs.Common.{ℕ, take}
use Rattle.mcs_mesh.specs.Players.{IsReadyRound}
use Rattle.mcs_mesh.proofs.PlayLemmas.{IsInPlay, round}
use Rattle.mcs_mesh.proofs.turns.play_in_turn.Given as goal

abbrev pub invariant-loop-i : goal.invariant-loop-i
invariant-loop-i g l = (budget : ℕ) (ready : IsReadyRound l.plan l.level budget l.asked l.fn.nodes) → IsInPlay (round l.plan l.level budget l.asked l.fn.nodes ready) l.fn.nodes (take l.i-index l.i-items) l.nodes l.total
