-- What a run leaves to be seen of its last round.
use Rattle.std.specs.Prelude.{◌≡◌, ◌⊎◌, ℕ, ◌<◌, List, Option, Result, Ok, Err, IfSome}
use Rattle.mcs_ports.specs.Pieces.{noted}
use Rattle.mcs_crew.specs.Trails.{IsNoTrail, TrailData}
use Rattle.mcs_words.specs.Commands.{Word, Request, IsJobOf}
use Rattle.mcs_listing.specs.Jobs.{File}
use Rattle.mcs_listing.specs.Endings.{unfinished_line}
use Rattle.mcs_listing.specs.declared.ending.Stop.{Stop}
use Rattle.mcs_listing.specs.declared.ending.Stop.TheVariants as stops
use Rattle.mcs_listing.specs.declared.status.Status.{Status}
use Rattle.mcs_listing.specs.declared.status.Status.TheVariants as statuses
use Rattle.mcs_top.specs.Meaning.{JobMeaning, meaning, OfJob, IfJob}
use Rattle.mcs_top.specs.declared.outcome.Outcome.{Outcome}
use Rattle.mcs_top.specs.declared.outcome.Outcome.TheVariants as outcomes

-- ---- what is said of a job
-- how many workers it is given
abbrev pub workers_of : Request → ℕ
workers_of job = (meaning job).workers

-- it uses fewer than two workers
abbrev pub JobUsesFew : JobMeaning → List File → Type 0
JobUsesFew job files = job.uses_few files

-- it was done
abbrev pub ShowsJob : TrailData → JobMeaning → List File → Type 0
ShowsJob t job files = job.shows t files

-- it stopped at this level
abbrev pub ShowsJobBeyond : TrailData → ℕ → JobMeaning → List File → Type 0
ShowsJobBeyond t level job files = job.shows_beyond t level files

-- ---- what a run promises of it
-- a status that is told before a system is evaluated, or after a report was checked
abbrev pub IsUnevaluated : Status → Type 0
IsUnevaluated status = (status ≡ statuses.NotValid) ⊎ ((status ≡ statuses.Usage) ⊎ ((status ≡ statuses.Refused) ⊎ (status ≡ statuses.ReadFault)))

-- the level at which the job stopped is noted, and the trail shows it
pub record ShowsNoted (before now : Option (List ℕ)) (t : TrailData) (job : JobMeaning) (files : List File) : Type 0 where
  pub level : ℕ
  pub shows : ShowsJobBeyond t level job files
  pub line : now ≡ noted before (unfinished_line level job.budget)

-- The words after the program's name, what the shelf holds by name where it tells, the notes before and after the run, the
-- status, and the trail. With fewer than two workers used there is nothing to be seen. With more, the trail shows the last
-- round of a job that was done, and a spent budget; after a failed write and want of memory nothing is said of it.
pub record KeepsTrail (words : List Word) (held : Option (Word → File)) (before now : Option (List ℕ)) (status : Status) (t : TrailData) : Type 0 where
  pub alone : (job : Request) → IsJobOf words job → workers_of job < 2 → IsNoTrail t
  pub few : IfJob words held (λ job files. JobUsesFew job files → IsNoTrail t)
  pub unevaluated : IsUnevaluated status → IsNoTrail t
  pub done : status ≡ statuses.Done → OfJob words held (ShowsJob t)
  pub spent : status ≡ statuses.Unfinished → OfJob words held (ShowsNoted before now t)

-- ---- what a job leaves of it
-- by how it ended
abbrev pub ShowsEnding : JobMeaning → Option (List File) → TrailData → Result Outcome Stop → Type 0
ShowsEnding job files t (Ok outcomes.Done) = IfSome files (ShowsJob t job)
ShowsEnding job files t (Ok outcomes.NotValid) = IsNoTrail t
ShowsEnding job files t (Err stops.Usage) = IsNoTrail t
ShowsEnding job files t (Err (stops.Refused why)) = IsNoTrail t
ShowsEnding job files t (Err (stops.Unfinished level limit)) = IfSome files (ShowsJobBeyond t level job)
ShowsEnding job files t (Err stops.ReadFault) = IsNoTrail t
ShowsEnding job files t (Err stops.WriteFault) = Unit {0}
ShowsEnding job files t (Err stops.Memory) = Unit {0}

pub record LeavesTrail (job : JobMeaning) (files : Option (List File)) (t : TrailData) (r : Result Outcome Stop) : Type 0 where
  pub alone : job.workers < 2 → IsNoTrail t
  pub few : IfSome files (λ fs. JobUsesFew job fs → IsNoTrail t)
  pub ending : ShowsEnding job files t r
