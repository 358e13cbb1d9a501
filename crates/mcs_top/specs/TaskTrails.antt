-- What a task leaves to be seen of its last round: the wires and the word of worker threads.
use Rattle.std.specs.Prelude.{ℕ, ◌<◌, ◌≤◌, Bool, true, false, length, Result, Ok, Err}
use Rattle.mcs_system.specs.Plain.{System}
use Rattle.mcs_work.specs.Tasks.{IsLastTaken}
use Rattle.mcs_work.specs.declared.task.Task.{Task}
use Rattle.mcs_work.specs.declared.task.Task.TheVariants.{Equilibria, Grounded, Solve, Cheapest, Make}
use Rattle.mcs_crew.specs.Trails.{IsNoTrail, TrailData, group_count}
use Rattle.mcs_crew.specs.Told.{ShowsDone, ShowsSpent}
use Rattle.mcs_listing.specs.declared.ending.Stop.{Stop}
use Rattle.mcs_listing.specs.declared.ending.Stop.TheVariants as stops

-- of so many workers fewer than two are used
abbrev pub UsesFew : ℕ → System → Type 0
UsesFew workers m = group_count workers (length m.contexts) < 2

-- at least two are
abbrev pub UsesMany : ℕ → System → Type 0
UsesMany workers m = 2 ≤ group_count workers (length m.contexts)

-- whether the round of each level is played for the task, even where it has no other questions than one before: at which level
-- the search for the cheapest diagnoses ends is not known before
abbrev pub plays_each : Task → Bool
plays_each Equilibria = false
plays_each Grounded = false
plays_each Solve = false
plays_each Cheapest = true
plays_each Make = false

-- the task was done: the last round was that of the last level of the task
pub data ShowsTask (task : Task) (workers : ℕ) (m : System) (t : TrailData) : Type 0 where
  done_by_few : UsesFew workers m → IsNoTrail t → ShowsTask task workers m t
  done_by_many : UsesMany workers m → (level : ℕ) → IsLastTaken task m level → ShowsDone m level (group_count workers (length m.contexts)) t → ShowsTask task workers m t

-- the task stopped at this level, which has more questions than the budget
pub data ShowsBeyond (level budget workers : ℕ) (m : System) (t : TrailData) : Type 0 where
  spent_by_few : UsesFew workers m → IsNoTrail t → ShowsBeyond level budget workers m t
  spent_by_many : UsesMany workers m → ShowsSpent m level budget (group_count workers (length m.contexts)) t → ShowsBeyond level budget workers m t

-- it stopped for this reason; nothing is said of more workers after a failed write and want of memory
abbrev pub ShowsStop : ℕ → ℕ → System → TrailData → Stop → Type 0
ShowsStop budget workers m t stops.Usage = IsNoTrail t
ShowsStop budget workers m t (stops.Refused why) = IsNoTrail t
ShowsStop budget workers m t (stops.Unfinished level limit) = ShowsBeyond level budget workers m t
ShowsStop budget workers m t stops.ReadFault = IsNoTrail t
ShowsStop budget workers m t stops.WriteFault = UsesFew workers m → IsNoTrail t
ShowsStop budget workers m t stops.Memory = UsesFew workers m → IsNoTrail t

-- it ended so
abbrev pub ShowsEnd : {T : Type 0} → Task → ℕ → ℕ → System → TrailData → Result T Stop → Type 0
ShowsEnd task budget workers m t (Ok x) = ShowsTask task workers m t
ShowsEnd task budget workers m t (Err stop) = ShowsStop budget workers m t stop
