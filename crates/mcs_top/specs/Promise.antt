-- What a run promises of the job that its words ask for.
use Rattle.std.specs.Prelude.{◌≡◌, ◌⊎◌, ℕ, ◌≤◌, List, [], Option, Result, Ok, Err, IfSome, IfOk, IfErr}
use Rattle.mcs_ports.specs.Causes.{Rose}
use Rattle.mcs_ports.specs.Pieces.{Device, noted}
use Rattle.mcs_words.specs.Commands.{Word, Request, IsJobOf}
use Rattle.mcs_check.specs.declared.finding.Finding.{Finding}
use Rattle.mcs_check.specs.declared.finding.Finding.TheVariants.{Valid, Fails}
use Rattle.mcs_listing.specs.Jobs.{File, told_all}
use Rattle.mcs_listing.specs.Endings.{refusal_line, unfinished_line, line_of}
use Rattle.mcs_listing.specs.Listings.{Prints, PrintsFront, UsesSink}
use Rattle.mcs_top.specs.Meaning.{JobMeaning, files_in, OfJob, IfJob}
use Rattle.mcs_top.specs.declared.outcome.Outcome.{Outcome}
use Rattle.mcs_top.specs.declared.outcome.Outcome.TheVariants as outcomes
use Rattle.mcs_listing.specs.declared.ending.Refusal.{Refusal}
use Rattle.mcs_listing.specs.declared.ending.Stop.{Stop}
use Rattle.mcs_listing.specs.declared.ending.Stop.TheVariants as stops
use Rattle.mcs_listing.specs.declared.status.Status.{Status}
use Rattle.mcs_listing.specs.declared.status.Status.TheVariants as statuses

-- ---- what the clauses say of a job
-- what it prints where it is done
abbrev pub IsOutput : List ℕ → JobMeaning → List File → Type 0
IsOutput text job files = job.output text files

-- what it prints where it finds that a report is not valid
abbrev pub IsRejection : List ℕ → JobMeaning → List File → Type 0
IsRejection text job files = job.rejection text files

-- a stage of what it prints
abbrev pub IsStage : List ℕ → JobMeaning → List File → Type 0
IsStage text job files = job.stage text files

-- what it prints where it stops at this level
abbrev pub IsOutputBeyond : List ℕ → ℕ → JobMeaning → List File → Type 0
IsOutputBeyond text level job files = job.beyond text level files

-- the budget does not suffice
abbrev pub LacksBudget : JobMeaning → List File → Type 0
LacksBudget job files = job.short files

-- why it is refused
abbrev pub IsRefusal : Refusal → JobMeaning → List File → Type 0
IsRefusal why job files = job.refusal why files

-- a file that it reads is not there
abbrev pub LacksFile : JobMeaning → List File → Type 0
LacksFile job files = job.lacking files

-- such a file is not there, or a call on one that is there failed
abbrev pub CannotBeRead : Type 0 → JobMeaning → List File → Type 0
CannotBeRead failed job files = LacksFile job files ⊎ failed

-- nothing but memory and the devices stands in its way
abbrev pub CanBeDone : JobMeaning → List File → Type 0
CanBeDone job files = job.possible files

-- the report that it checks is not valid
abbrev pub CanBeRejected : JobMeaning → List File → Type 0
CanBeRejected job files = job.invalid files

-- ---- what a run did
-- the output of the job was
abbrev pub WritesOutput : Option (List ℕ) → Option (List ℕ) → JobMeaning → List File → Type 0
WritesOutput before now job files = Prints (λ text. IsOutput text job files) before now

-- that a report is not valid was
abbrev pub WritesRejection : Option (List ℕ) → Option (List ℕ) → JobMeaning → List File → Type 0
WritesRejection before now job files = Prints (λ text. IsRejection text job files) before now

-- what the job writes where it ends so
abbrev pub WritesOutcome : Outcome → Option (List ℕ) → Option (List ℕ) → JobMeaning → List File → Type 0
WritesOutcome outcomes.Done before now job files = WritesOutput before now job files
WritesOutcome outcomes.NotValid before now job files = WritesRejection before now job files

-- a job that ends so can't end otherwise
abbrev pub Excludes : Outcome → JobMeaning → List File → Type 0
Excludes outcomes.Done job files = ¬ CanBeRejected job files
Excludes outcomes.NotValid job files = ¬ CanBeDone job files

-- how the job ends that was not stopped
pub record EndsSo (outcome : Outcome) (before now : Option (List ℕ)) (job : JobMeaning) (files : List File) : Type 0 where
  pub writes : WritesOutcome outcome before now job files
  pub only : Excludes outcome job files

-- a job ends so that was done unless it stopped
abbrev pub as_done : Result (Unit {0}) Stop → Result Outcome Stop
as_done (Ok x) = Ok outcomes.Done
as_done (Err stop) = Err stop

-- how the check of a report ends, by what it finds
abbrev pub outcome_of : Finding → Outcome
outcome_of Valid = outcomes.Done
outcome_of (Fails line reason) = outcomes.NotValid

-- a front of a stage of it was
abbrev pub WritesStage : Option (List ℕ) → Option (List ℕ) → JobMeaning → List File → Type 0
WritesStage before now job files = PrintsFront (λ text. IsStage text job files) before now

-- what the job prints where it stops at the level was
abbrev pub WritesBeyond : ℕ → Option (List ℕ) → Option (List ℕ) → JobMeaning → List File → Type 0
WritesBeyond level before now job files = Prints (λ text. IsOutputBeyond text level job files) before now

-- it was, and the level is noted with the budget
pub record StopsBeyond (first last before now : Option (List ℕ)) (job : JobMeaning) (files : List File) : Type 0 where
  pub level : ℕ
  pub writes : WritesBeyond level first last job files
  pub line : now ≡ noted before (unfinished_line level job.budget)

-- the job is refused, and why is noted
pub record TellsRefusal (before now : Option (List ℕ)) (job : JobMeaning) (files : List File) : Type 0 where
  pub why : Refusal
  pub reason : IsRefusal why job files
  pub line : now ≡ noted before (refusal_line why)

-- what each status notes
abbrev pub Notes : Status → Option (List ℕ) → Option (List ℕ) → Type 0
Notes statuses.Done before now = now ≡ before
Notes statuses.NotValid before now = now ≡ before
Notes statuses.Usage before now = now ≡ noted before (line_of stops.Usage)
Notes statuses.Refused before now = (why : Refusal) × (now ≡ noted before (refusal_line why))
Notes statuses.Unfinished before now = (level budget : ℕ) × (now ≡ noted before (unfinished_line level budget))
Notes statuses.ReadFault before now = now ≡ noted before (line_of stops.ReadFault)
Notes statuses.WriteFault before now = now ≡ noted before (line_of stops.WriteFault)
Notes statuses.OutOfMemory before now = now ≡ noted before (line_of stops.Memory)

-- the status, unless memory ran out
abbrev pub IsUnlessMemory : Status → Status → Type 0
IsUnlessMemory due status = (status ≡ due) ⊎ (status ≡ statuses.OutOfMemory)

-- ---- what a run promises
-- a call on a file that is there failed: both counts rose
abbrev pub CallHasFailed : ℕ → ℕ → ℕ → ℕ → Type 0
CallHasFailed faults faults' failures failures' = Rose faults faults' × Rose failures failures'

-- The words after the program's name, what the shelf holds by name where it tells, its counts of faults and of failures before
-- and after the run, the device before and after it, and the status that the run answers.
pub record KeepsPromise (words : List Word) (held : Option (Word → File)) (faults faults' failures failures' : ℕ) (device device' : Device) (status : Status) : Type 0 where
  -- a usage fault is told only where the words ask for no job, and there it is told
  pub usage : status ≡ statuses.Usage → (job : Request) → ¬ IsJobOf words job
  pub no_job : ((job : Request) → ¬ IsJobOf words job) → IsUnlessMemory statuses.Usage status
  -- a fault of a device is told only where its count rose in this call
  pub read_fault : status ≡ statuses.ReadFault → Rose faults faults'
  pub write_fault : status ≡ statuses.WriteFault → Rose device.faults device'.faults
  pub shelf_later : faults ≤ faults'
  pub sink_later : device.faults ≤ device'.faults
  -- unless a write fault is told, no write failed
  pub unfailed : ¬ (status ≡ statuses.WriteFault) → device'.faults ≡ device.faults
  -- a job is refused exactly for what is wrong with its files, and that is noted
  pub refused : status ≡ statuses.Refused → OfJob words held (TellsRefusal device.notes device'.notes)
  pub refusal : IfJob words held (λ job files. (why : Refusal) → IsRefusal why job files → ¬ CallHasFailed faults faults' failures failures' → IsUnlessMemory statuses.Refused status)
  -- a file is not read exactly where it is not there, or a call on it failed
  pub unreadable : status ≡ statuses.ReadFault → OfJob words held (CannotBeRead (CallHasFailed faults faults' failures failures'))
  pub missing : IfJob words held (λ job files. LacksFile job files → IsUnlessMemory statuses.ReadFault status)
  -- a job stops exactly where a level that it takes has more questions than the budget; what is printed before the least one was
  -- written, and that level is noted
  pub beyond : status ≡ statuses.Unfinished → OfJob words held (StopsBeyond device.written device'.written device.notes device'.notes)
  pub spent : IfJob words held (λ job files. LacksBudget job files → ¬ CallHasFailed faults faults' failures failures' → ¬ Rose device.faults device'.faults → IsUnlessMemory statuses.Unfinished status)
  -- that a report is not valid comes where it is not, and which of the tests it fails, at which line, was written
  pub not_valid : status ≡ statuses.NotValid → OfJob words held (WritesRejection device.written device'.written)
  pub invalid : IfJob words held (λ job files. CanBeRejected job files → ¬ CallHasFailed faults faults' failures failures' → ¬ Rose device.faults device'.faults → IsUnlessMemory statuses.NotValid status)
  -- that the job was done comes where its whole output was written
  pub done : status ≡ statuses.Done → OfJob words held (WritesOutput device.written device'.written)
  -- it does come where the budget suffices, unless memory ran out or a device failed
  pub complete : IfJob words held (λ job files. CanBeDone job files → ¬ CallHasFailed faults faults' failures failures' → ¬ Rose device.faults device'.faults → IsUnlessMemory statuses.Done status)
  -- otherwise a front of a stage of the output was written, or nothing
  pub unfinished : status ≡ statuses.WriteFault → OfJob words held (WritesStage device.written device'.written)
  pub out_of_memory : status ≡ statuses.OutOfMemory → (device'.written ≡ device.written) ⊎ OfJob words held (WritesStage device.written device'.written)
  pub silent : (status ≡ statuses.Usage) ⊎ ((status ≡ statuses.Refused) ⊎ (status ≡ statuses.ReadFault)) → device'.written ≡ device.written
  -- the line of the status is noted, and nothing else
  pub notes : Notes status device.notes device'.notes

-- the words name no file: each job that they ask for reads none
abbrev pub NamesNoFile : List Word → Type 0
NamesNoFile words = (job : Request) → IsJobOf words job → files_in job ≡ []

-- ---- why a job stops, and what was written then
-- the cause of each stop: a count that rose, a file that is not there, or a reason to refuse
abbrev pub IsStopCause : Stop → Type 0 → Type 0 → Type 0 → JobMeaning → Option (List File) → Type 0
IsStopCause stops.Usage shelf_rose failed sink_rose job files = ⊥
IsStopCause (stops.Refused why) shelf_rose failed sink_rose job files = IfSome files (IsRefusal why job)
IsStopCause (stops.Unfinished level budget) shelf_rose failed sink_rose job files = budget ≡ job.budget
IsStopCause stops.ReadFault shelf_rose failed sink_rose job files = shelf_rose × IfSome files (CannotBeRead failed job)
IsStopCause stops.WriteFault shelf_rose failed sink_rose job files = sink_rose
IsStopCause stops.Memory shelf_rose failed sink_rose job files = Unit {0}

-- nothing was written, or a front of a stage; where no write was tried, nothing
abbrev pub LeavesText : Stop → JobMeaning → Option (List File) → Option (List ℕ) → Option (List ℕ) → Type 0
LeavesText stops.Usage job files before now = now ≡ before
LeavesText (stops.Refused why) job files before now = now ≡ before
LeavesText (stops.Unfinished level budget) job files before now = IfSome files (WritesBeyond level before now job)
LeavesText stops.ReadFault job files before now = now ≡ before
LeavesText stops.WriteFault job files before now = IfSome files (WritesStage before now job)
LeavesText stops.Memory job files before now = (now ≡ before) ⊎ IfSome files (WritesStage before now job)

-- ---- what a part of a run does
-- it does the job, by what the shelf holds by name, within its counts of faults and of failures before and after
pub record DoesJob (job : JobMeaning) (held : Option (Word → File)) (faults faults' failures failures' : ℕ) (before now : Device) (r : Result Outcome Stop) : Type 0 where
  pub shelf_later : faults ≤ faults'
  pub sink : UsesSink before now r
  pub ok : IfOk r (λ outcome. IfSome (told_all held job.files) (EndsSo outcome before.written now.written job))
  pub cause : IfErr r (λ stop. IsStopCause stop (Rose faults faults') (Rose failures failures') (Rose before.faults now.faults) job (told_all held job.files))
  pub leaves : IfErr r (λ stop. LeavesText stop job (told_all held job.files) before.written now.written)
