-- What the evaluation of a system leaves, once a task was done for it or the work stopped.
use Rattle.std.specs.Prelude.{◌≡◌, ℕ, Bool, cond, List, [], ◌∷◌, Option, Result, Ok, Err}
use Rattle.mcs_system.specs.Plain.{System}
use Rattle.mcs_states.specs.Oracles.{OracleState}
use Rattle.mcs_states.specs.Evaluators.{EvaluatorState, KeepsRest}
use Rattle.mcs_work.specs.Work.{IsDone}
use Rattle.mcs_work.specs.declared.task.Task.{Task}
use Rattle.mcs_work.specs.declared.task.WorkStop.{WorkStop}
use Rattle.mcs_crew.specs.Trails.{TrailData}
use Rattle.mcs_listing.specs.Endings.{stop_for_work}
use Rattle.mcs_listing.specs.Listings.{HaveOrigin, IsNewEvaluator}
use Rattle.mcs_top.specs.TaskTrails.{ShowsStop, ShowsTask}

-- what the work leaves to be seen, by how it ended
abbrev pub ShowsWork : Task → ℕ → ℕ → System → TrailData → Result (Unit {0}) WorkStop → Type 0
ShowsWork task budget workers m t (Ok x) = ShowsTask task workers m t
ShowsWork task budget workers m t (Err stop) = ShowsStop budget workers m t (stop_for_work budget stop)

-- the task was done by an evaluator that was new, whose oracles keep certificates where that is asked for; these came of them
pub record HasListed (task : Task) (budget : ℕ) (keep : Bool) (m : System) (oracles : List OracleState) (before now : Option (List ℕ)) : Type 0 where
  pub first : EvaluatorState
  pub state : EvaluatorState
  pub fresh : IsNewEvaluator m budget first
  pub keeps : HaveOrigin (cond keep ([] ∷ []) []) first.oracles
  pub rest : KeepsRest first state
  pub whole : IsDone task [] first state before now
  pub oracles_are : state.oracles ≡ oracles
