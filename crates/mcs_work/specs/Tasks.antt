-- What is printed for a task, and which levels it takes.
use Rattle.std.specs.Prelude.{◌≡◌, ℕ, ◌≤◌, List, [], length, ◌⊎◌}
use Rattle.mcs_system.specs.Plain.{System}
use Rattle.mcs_system.specs.Systems.{IsConsistent}
use Rattle.mcs_states.specs.declared.halt.Halt.{Halt}
use Rattle.mcs_states.specs.declared.halt.Halt.TheVariants as halts
use Rattle.mcs_text.specs.declared.unwritten.Unwritten.{Unwritten}
use Rattle.mcs_text.specs.declared.unwritten.Unwritten.TheVariants as unwritten
use Rattle.mcs_report.specs.Listing.{heading, IsEquilibriaText, IsEquilibriaStage}
use Rattle.mcs_report.specs.Solutions.{IsWholeListing, IsListingStage, IsListingUpTo, IsSummary, IsSummaryStage}
use Rattle.mcs_reduct.specs.Plain.{IsPlain}
use Rattle.mcs_costs.specs.Costs.{IsStopLevel, IsUpToStop}
use Rattle.mcs_work.specs.Cheapest.{IsCheapestText, IsCheapestStage, IsCheapestUpTo}
use Rattle.mcs_work.specs.Grounded.{IsGroundedText, IsGroundedStage}
use Rattle.mcs_work.specs.declared.task.Task.{Task}
use Rattle.mcs_work.specs.declared.task.Task.TheVariants.{Equilibria, Grounded, Solve, Cheapest, Make}
use Rattle.mcs_work.specs.declared.task.WorkStop.{WorkStop}
use Rattle.mcs_work.specs.declared.task.WorkStop.TheVariants as stops

-- the systems for which the task is defined
abbrev pub IsDefinedFor : Task → System → Type 0
IsDefinedFor Equilibria m = Unit {0}
IsDefinedFor Grounded m = IsPlain m
IsDefinedFor Solve m = Unit {0}
IsDefinedFor Cheapest m = Unit {0}
IsDefinedFor Make m = Unit {0}

-- the answers to questions are enough for the task: no solver is needed beside them
abbrev pub TakesAnswersAlone : Task → Type 0
TakesAnswersAlone Equilibria = Unit {0}
TakesAnswersAlone Grounded = ⊥
TakesAnswersAlone Solve = Unit {0}
TakesAnswersAlone Cheapest = Unit {0}
TakesAnswersAlone Make = Unit {0}

-- the text of the task, whole
abbrev pub IsTaskText : Task → System → List ℕ → Type 0
IsTaskText Equilibria m text = IsEquilibriaText m text
IsTaskText Grounded m text = IsGroundedText m text
IsTaskText Solve m text = IsWholeListing m text
IsTaskText Cheapest m text = IsCheapestText m text
IsTaskText Make m text = IsSummary m text

-- a stage of it: what is there once that which it needs was computed
abbrev pub IsTaskStage : Task → System → List ℕ → Type 0
IsTaskStage Equilibria m text = IsEquilibriaStage m text
IsTaskStage Grounded m text = IsGroundedStage m text
IsTaskStage Solve m text = IsListingStage m text
IsTaskStage Cheapest m text = IsCheapestStage m text
IsTaskStage Make m text = IsSummaryStage m text

-- what is printed before the first question
abbrev pub opening : Task → System → List ℕ
opening Equilibria m = heading m
opening Grounded m = heading m
opening Solve m = heading m
opening Cheapest m = heading m
opening Make m = []

-- what is printed before this level is evaluated
abbrev pub IsTaskUpTo : Task → System → ℕ → List ℕ → Type 0
IsTaskUpTo Equilibria m level text = text ≡ heading m
IsTaskUpTo Grounded m level text = text ≡ heading m
IsTaskUpTo Solve m level text = IsListingUpTo m level text
IsTaskUpTo Cheapest m level text = IsCheapestUpTo m level text
IsTaskUpTo Make m level text = text ≡ []

-- a level that repairs ask for: level 0, and of an inconsistent system each level up to the number of its rules
abbrev pub IsRepairLevel : System → ℕ → Type 0
IsRepairLevel m level = (level ≡ 0) ⊎ ((¬ IsConsistent m) × (level ≤ length m.bridges))

-- the greatest of them
abbrev pub IsLastRepairLevel : System → ℕ → Type 0
IsLastRepairLevel m level = (IsConsistent m × (level ≡ 0)) ⊎ ((¬ IsConsistent m) × (level ≡ length m.bridges))

-- a level that the task evaluates: the equilibria, and the grounded ones among them, ask for level 0, and the cheapest diagnoses for the levels up to the stop level
abbrev pub TakesLevel : Task → System → ℕ → Type 0
TakesLevel Equilibria m level = level ≡ 0
TakesLevel Grounded m level = level ≡ 0
TakesLevel Solve m level = IsRepairLevel m level
TakesLevel Cheapest m level = IsUpToStop m level
TakesLevel Make m level = IsRepairLevel m level

-- the greatest of them
abbrev pub IsLastTaken : Task → System → ℕ → Type 0
IsLastTaken Equilibria m level = level ≡ 0
IsLastTaken Grounded m level = level ≡ 0
IsLastTaken Solve m level = IsLastRepairLevel m level
IsLastTaken Cheapest m level = IsStopLevel m level
IsLastTaken Make m level = IsLastRepairLevel m level

-- ---- why the work stops, by what stopped a part of it
abbrev pub stop_for_halt : Halt → WorkStop
stop_for_halt (halts.Spent level drawn) = stops.Spent level
stop_for_halt (halts.Missing context active) = stops.Missing context active
stop_for_halt halts.Memory = stops.Memory

abbrev pub stop_for_line : Unwritten → WorkStop
stop_for_line unwritten.Fault = stops.Write
stop_for_line unwritten.Memory = stops.Memory
