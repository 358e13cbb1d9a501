use Rattle.std.proofs.Common.{◌≡◌, ℕ, ◌+◌, ◌≤◌, List, map, take}
use Rattle.mcs_system.specs.Plain.{System}
use Rattle.mcs_states.specs.Oracles.{OracleState}
use Rattle.mcs_mesh.specs.Players.{as_new}
use Rattle.mcs_mesh.specs.Rounds.{AreNew}
use Rattle.mcs_mesh.specs.Replays.{AreOfRound, course}
use Rattle.mcs_mesh.proofs.ReplayLemmas.{IsReplaying}
use Rattle.mcs_mesh.proofs.replay.replay_events.Given as goal

abbrev pub invariant-loop-event : goal.invariant-loop-event
invariant-loop-event g l = record {
  of_round : AreOfRound l.level l.nodes;
  replaying : (m : System) (budget : ℕ) (oracles : List OracleState) → AreNew m budget oracles l.fn.nodes → IsReplaying m l.level budget (take l.event-index l.events) (course l.nodes l.letters.items l.total) l.counts.ignored l.counts.skipped;
  same : map as_new l.nodes ≡ map as_new l.fn.nodes;
  few : l.counts.ignored + l.counts.skipped ≤ l.event-index;
}
