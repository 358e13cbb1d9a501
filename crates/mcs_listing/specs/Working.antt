-- The work on a task by an evaluation, whoever plays its rounds.
use Rattle.std.specs.Prelude.{◌≡◌, ℕ, Bool, true, false, List, [], Option, Some, None, Result}
use Rattle.mcs_ports.specs.Pieces.{Device}
use Rattle.mcs_system.specs.Plain.{System}
use Rattle.mcs_states.specs.Oracles.{OracleState}
use Rattle.mcs_states.specs.Evaluators.{EvaluatorState}
use Rattle.mcs_states.specs.declared.halt.Halt.{Halt}
use Rattle.mcs_node.specs.Nodes.{NodeData}
use Rattle.mcs_mesh.specs.Players.{AreNodesOf, oracles_of}
use Rattle.mcs_mesh.specs.Rounds.{AreFresh, AreNew, HasLastRound, HasShown, IsHaltOfRound, IsLastRound, evaluator_state_of}
use Rattle.mcs_work.specs.Tasks.{IsDefinedFor}
use Rattle.mcs_work.specs.Work.{Works}
use Rattle.mcs_work.specs.declared.task.Task.{Task}
use Rattle.mcs_work.specs.declared.task.WorkStop.{WorkStop}

-- ---- what an evaluation begins with
-- for each context of the system a new node within the budget, and the plan is the system's
pub record Begins (m plan : System) (budget : ℕ) (nodes : List NodeData) : Type 0 where
  pub plan_is : plan ≡ m
  pub new : AreNew m budget (oracles_of nodes) nodes
  pub fresh : AreFresh m (oracles_of nodes)

-- the same, and the task is defined for the system
pub record CanWork (task : Task) (m plan : System) (budget : ℕ) (nodes : List NodeData) : Type 0 where
  pub begins : Begins m plan budget nodes
  pub defined : IsDefinedFor task m

-- ---- what the work leaves
-- the task was worked on, within the budget, by an evaluation that so many workers play, over oracles of which none was asked; these came of them
pub record IsWorked (workers : ℕ) (task : Task) (m : System) (budget : ℕ) (first oracles : List OracleState) (before now : Device) (ended : Result (Unit {0}) WorkStop) : Type 0 where
  -- what the evaluator stands for in the end
  pub state : EvaluatorState
  pub works : Works task [] (evaluator_state_of workers m budget None None first) state before now ended
  pub oracles_are : state.oracles ≡ oracles

-- the same, with what the player has shown of the last round; `leaves` tells what it leaves of a round
pub record HasWorked {T : Type 0} (leaves : System → ℕ → ℕ → List NodeData → Result ℕ Halt → T → Type 0) (plays_last plays_each : Bool) (workers : ℕ) (task : Task) (m : System) (budget : ℕ) (first : List OracleState)
    (nodes : List NodeData) (trail : Option T) (before now : Device) (ended : Result (Unit {0}) WorkStop) : Type 0 where
  pub worked : IsWorked workers task m budget first (oracles_of nodes) before now ended
  pub own : AreNodesOf m budget nodes
  -- the level of the last round, if one was played
  pub last : Option ℕ
  pub shown : (level : ℕ) → last ≡ Some level → HasShown (leaves m level budget nodes) worked.state.halt trail
  pub unshown : last ≡ None → trail ≡ None
  pub halt : IsHaltOfRound budget last worked.state.halt
  pub round : worked.state.halted ≡ false → IsLastRound m last worked.state.done
  pub reaches : plays_last ≡ true → worked.state.halted ≡ false → HasLastRound m worked.state.done last
  pub each : plays_each ≡ true → worked.state.halted ≡ false → last ≡ worked.state.done
