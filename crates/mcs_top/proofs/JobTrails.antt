-- What a job leaves to be seen of its last round, and what a run promises of it.
use Rattle.std.proofs.Common.{◌≡◌, ℕ, ◌<◌, List, [], ◌∷◌, Option, Some, None, Result, Ok, Err, IfSome, refl, sym, ap, ◌∙◌, inl, inr, subst}
use Rattle.std.specs.Result.{IsErrAnd}
use Rattle.mcs_ports.specs.Pieces.{Device, noted}
use Rattle.mcs_system.specs.Plain.{System}
use Rattle.mcs_faults.proofs.Unambiguous.{texts-unambiguous}
use Rattle.mcs_generator.specs.Generated.{generated_system}
use Rattle.mcs_work.specs.declared.task.Task.{Task}
use Rattle.mcs_work.specs.declared.task.Task.TheVariants.{Make}
use Rattle.mcs_crew.specs.Trails.{IsNoTrail, TrailData}
use Rattle.mcs_words.specs.Commands.{Word, Request, IsJobOf}
use Rattle.mcs_words.proofs.JobLemmas.{asked_once}
use Rattle.mcs_listing.specs.Jobs.{File, told_all, OfOneFile}
use Rattle.mcs_listing.specs.Texts.{IsTextFor, StopsReading}
use Rattle.mcs_listing.specs.Endings.{line_of, unfinished_line, status_of, IsEndingTold}
use Rattle.mcs_listing.specs.declared.ending.Refusal.{Refusal}
use Rattle.mcs_listing.specs.declared.ending.Stop.{Stop}
use Rattle.mcs_listing.specs.declared.ending.Stop.TheVariants as stops
use Rattle.mcs_listing.specs.declared.status.Status.{Status}
use Rattle.mcs_listing.specs.declared.status.Status.TheVariants as statuses
use Rattle.mcs_listing.proofs.JobLemmas.{told_also}
use Rattle.mcs_top.specs.Meaning.{JobMeaning, IfJob, OfTask, file_job, report_job, made_job, session_job, meaning, files_in}
use Rattle.mcs_top.specs.Promise.{IsStopCause, as_done}
use Rattle.mcs_top.specs.declared.outcome.Outcome.{Outcome}
use Rattle.mcs_top.specs.declared.outcome.Outcome.TheVariants as outcomes
use Rattle.mcs_top.specs.TaskTrails.{ShowsBeyond, ShowsEnd, ShowsStop, ShowsTask, UsesFew}
use Rattle.mcs_top.specs.Trails.{IsUnevaluated, JobUsesFew, KeepsTrail, LeavesTrail, ShowsEnding, ShowsNoted, workers_of}
use Rattle.mcs_top.proofs.EndingLemmas.{own_line}
use Rattle.mcs_top.proofs.PromiseLemmas.{if_job}
use Rattle.mcs_top.proofs.StageLemmas.{spelled}
use Rattle.mcs_top.proofs.RefusalLemmas.{text_of_task}
use Rattle.mcs_top.proofs.TrailLemmas.{alone_few, few_end}

-- ---- nothing was evaluated
nothing_ending : (job : JobMeaning) (files : Option (List File)) (t : TrailData) → IsNoTrail t → (stop : Stop) → ((level limit : ℕ) → ¬ (stop ≡ stops.Unfinished level limit)) → ShowsEnding job files t (Err stop)
nothing_ending job files t none stops.Usage other = none
nothing_ending job files t none (stops.Refused why) other = none
nothing_ending job files t none (stops.Unfinished level limit) other = absurd (other level limit refl)
nothing_ending job files t none stops.ReadFault other = none
nothing_ending job files t none stops.WriteFault other = tt
nothing_ending job files t none stops.Memory other = tt

if_told : (files : Option (List File)) (P : List File → Type 0) → ((fs : List File) → P fs) → IfSome files P
if_told None P all = tt
if_told (Some fs) P all = all fs

module _ (job : JobMeaning) (files : Option (List File)) (t : TrailData) (none : IsNoTrail t) where
  pub nothing_left_of : (stop : Stop) → ((level limit : ℕ) → ¬ (stop ≡ stops.Unfinished level limit)) → LeavesTrail job files t (Err stop)
  nothing_left_of stop other = record { alone = λ less. none; few = if_told files _ (λ fs less. none); ending = nothing_ending job files t none stop other }

-- a file could not be read
reading_not_spent : (Refuses : Refusal → List ℕ → Type 0) (stop : Stop) (rose failed : Type 0) (files : Option (List File)) → StopsReading Refuses stop rose failed files → (level limit : ℕ) → ¬ (stop ≡ stops.Unfinished level limit)
reading_not_spent Refuses stops.Usage rose failed files h level limit is = absurd h
reading_not_spent Refuses (stops.Refused why) rose failed files h level limit is = cc
reading_not_spent Refuses (stops.Unfinished l b) rose failed files h level limit is = absurd h
reading_not_spent Refuses stops.ReadFault rose failed files h level limit is = cc
reading_not_spent Refuses stops.WriteFault rose failed files h level limit is = absurd h
reading_not_spent Refuses stops.Memory rose failed files h level limit is = cc

pub unread_left : (job : JobMeaning) (Refuses : Refusal → List ℕ → Type 0) (told files : Option (List File)) (t : TrailData) (rose failed : Type 0) (stop : Stop) → IsNoTrail t → StopsReading Refuses stop rose failed told → LeavesTrail job files t (Err stop)
unread_left job Refuses told files t rose failed stop none h = nothing_left_of job files t none stop (reading_not_spent Refuses stop rose failed told h)

-- the same, of what comes of this stop
pub err_left : (job : JobMeaning) (files : Option (List File)) (t : TrailData) (stop : Stop) (r : Result (Unit {0}) Stop) → IsErrAnd r (λ s. s ≡ stop) → LeavesTrail job files t (Err stop) → LeavesTrail job files t (as_done r)
err_left job files t stop (Ok x) is h = absurd is
err_left job files t stop (Err own) is h = subst (λ (s : Stop). LeavesTrail job files t (Err s)) (sym is) h

-- ---- the task for the system of a file
-- what does not hold of the system that was read does not hold of the one that the file spells
back : (task : Task) (m : System) (files : Option (List File)) → IfSome files (OfOneFile (IsTextFor task m)) → (P : System → Type 0) (Q : Type 0) → (P m → Q) → IfSome files (λ fs. OfOneFile (OfTask task P) fs → Q)
back task m files read P Q f = told_also files _ _ at read
  where
    at : (fs : List File) → OfOneFile (IsTextFor task m) fs → OfOneFile (OfTask task P) fs → Q
    at [] h k = absurd h
    at (None ∷ fs) h k = absurd h
    at (Some bytes ∷ []) h (n, again, holds) = f (subst P (texts-unambiguous bytes n m (text_of_task task n bytes again).spelled (text_of_task task m bytes h).spelled) holds)
    at (Some bytes ∷ (file ∷ fs)) h k = absurd h

module _ (IsText IsPart : System → List ℕ → Type 0) (task : Task) (name : Word) (budget workers : ℕ) (m : System) (files : Option (List File)) (read : IfSome files (OfOneFile (IsTextFor task m))) (t : TrailData) where
  abbrev file_means : JobMeaning
  file_means = file_job IsText IsPart task name budget workers

  file_stopped : (stop : Stop) → ShowsStop budget workers m t stop → ShowsEnding file_means files t (Err stop)
  file_stopped stops.Usage h = h
  file_stopped (stops.Refused why) h = h
  file_stopped (stops.Unfinished level limit) h = spelled task m files read (λ n. ShowsBeyond level budget workers n t) h
  file_stopped stops.ReadFault h = h
  file_stopped stops.WriteFault h = tt
  file_stopped stops.Memory h = tt

  file_ended : (r : Result (Unit {0}) Stop) → ShowsEnd task budget workers m t r → ShowsEnding file_means files t (as_done r)
  file_ended (Ok x) h = spelled task m files read (λ n. ShowsTask task workers n t) h
  file_ended (Err stop) h = file_stopped stop h

  pub file_left : (r : Result (Unit {0}) Stop) → ShowsEnd task budget workers m t r → LeavesTrail file_means files t (as_done r)
  file_left r shows = record {
    alone = λ less. few_end budget workers m t (alone_few workers m less) task r shows;
    few = back task m files read (UsesFew workers) (IsNoTrail t) (λ less. few_end budget workers m t less task r shows);
    ending = file_ended r shows;
  }

-- ---- a generated system, which is of no file
pub made_left : (number budget workers : ℕ) (t : TrailData) (r : Result (Unit {0}) Stop) → ShowsEnd Make budget workers (generated_system number) t r → LeavesTrail (made_job number budget workers) (Some []) t (as_done r)
made_left number budget workers t r shows = record {
  alone = λ less. few_end budget workers (generated_system number) t (alone_few workers (generated_system number) less) Make r shows;
  few = λ less. few_end budget workers (generated_system number) t less Make r shows;
  ending = at r shows;
}
  where
    stopped : (stop : Stop) → ShowsStop budget workers (generated_system number) t stop → ShowsEnding (made_job number budget workers) (Some []) t (Err stop)
    stopped stops.Usage h = h
    stopped (stops.Refused why) h = h
    stopped (stops.Unfinished level limit) h = h
    stopped stops.ReadFault h = h
    stopped stops.WriteFault h = tt
    stopped stops.Memory h = tt

    at : (r : Result (Unit {0}) Stop) → ShowsEnd Make budget workers (generated_system number) t r → ShowsEnding (made_job number budget workers) (Some []) t (as_done r)
    at (Ok x) h = h
    at (Err stop) h = stopped stop h

-- ---- a job that plays no rounds in threads
-- it has fewer than two workers, and shows nothing
pub unplayed_left : (job : JobMeaning) (files : Option (List File)) (t : TrailData) → IsNoTrail t → ((fs : List File) → job.shows t fs) → ((level : ℕ) (fs : List File) → job.shows_beyond t level fs) → (r : Result Outcome Stop) → LeavesTrail job files t r
unplayed_left job files t none shows beyond r = record { alone = λ less. none; few = if_told files _ (λ fs less. none); ending = at r }
  where
    stopped : (stop : Stop) → ShowsEnding job files t (Err stop)
    stopped stops.Usage = none
    stopped (stops.Refused why) = none
    stopped (stops.Unfinished level limit) = if_told files _ (beyond level)
    stopped stops.ReadFault = none
    stopped stops.WriteFault = tt
    stopped stops.Memory = tt

    at : (r : Result Outcome Stop) → ShowsEnding job files t r
    at (Ok outcomes.Done) = if_told files _ shows
    at (Ok outcomes.NotValid) = none
    at (Err stop) = stopped stop

-- a report is checked
pub check_left : (IsTold : List ℕ → System → List ℕ → Type 0) (file report : Word) (files : Option (List File)) (t : TrailData) → IsNoTrail t → (r : Result Outcome Stop) → LeavesTrail (report_job IsTold file report) files t r
check_left IsTold file report files t none r = unplayed_left (report_job IsTold file report) files t none (λ fs. none) (λ level fs. none) r

-- a script is listed
pub session_left : (file script : Word) (budget : ℕ) (files : Option (List File)) (t : TrailData) → IsNoTrail t → (r : Result Outcome Stop) → LeavesTrail (session_job file script budget) files t r
session_left file script budget files t none r = unplayed_left (session_job file script budget) files t none (λ fs. none) (λ level fs. none) r

-- ---- what the run promises
module _ (words : List Word) (held : Option (Word → File)) (before now : Option (List ℕ)) (t : TrailData) where
  abbrev Keeps : Status → Type 0
  Keeps status = KeepsTrail words held before now status t

  -- no job was done
  pub nothing_kept : (status : Status) → IsNoTrail t → ¬ (status ≡ statuses.Done) → ¬ (status ≡ statuses.Unfinished) → Keeps status
  nothing_kept status none not_done not_spent = record {
    alone = λ job asked less. none;
    few = λ job asked. if_told (told_all held (files_in job)) _ (λ fs less. none);
    unevaluated = λ is. none;
    done = λ is. absurd (not_done is);
    spent = λ is. absurd (not_spent is);
  }

  module _ (job : Request) (asked : IsJobOf words job) where
    abbrev files : Option (List File)
    files = told_all held (files_in job)

    abbrev means : JobMeaning
    means = meaning job

    alone_kept : (workers_of job < 2 → IsNoTrail t) → (other : Request) → IsJobOf words other → workers_of other < 2 → IsNoTrail t
    alone_kept here other other_asked = subst (λ (j : Request). workers_of j < 2 → IsNoTrail t) (asked_once words job other asked other_asked) here

    few_kept : IfSome files (λ fs. JobUsesFew means fs → IsNoTrail t) → IfJob words held (λ j fs. JobUsesFew j fs → IsNoTrail t)
    few_kept here = if_job words job asked held (λ j fs. JobUsesFew (meaning j) fs → IsNoTrail t) here

    pub done_kept : LeavesTrail means files t (Ok outcomes.Done) → Keeps statuses.Done
    done_kept l = record {
      alone = alone_kept l.alone;
      few = few_kept l.few;
      unevaluated = λ is. elim is [ inl e ↦ absurd (cc) | inr more ↦ elim more [ inl e ↦ absurd (cc) | inr again ↦ elim again [ inl e ↦ absurd (cc) | inr e ↦ absurd (cc) ] ] ];
      done = λ is. record { job = job; asked = asked; of_files = l.ending };
      spent = λ is. absurd (cc);
    }

    pub rejected_kept : LeavesTrail means files t (Ok outcomes.NotValid) → Keeps statuses.NotValid
    rejected_kept l = record { alone = alone_kept l.alone; few = few_kept l.few; unevaluated = λ is. l.ending; done = λ is. absurd (cc); spent = λ is. absurd (cc) }

-- the job stopped
module _ (words : List Word) (held : Option (Word → File)) (before now : Device) (t : TrailData) (job : Request) (asked : IsJobOf words job) (stop : Stop) (status : Status) (told : IsEndingTold stop status before now) where
  unevaluated : ShowsEnding (meaning job) (told_all held (files_in job)) t (Err stop) → IsUnevaluated status → IsNoTrail t
  unevaluated ending (inl is) = absurd (at stop (own_line stop status statuses.NotValid before now told is (λ e. cc)).0)
    where
      at : (s : Stop) → status_of s ≡ statuses.NotValid → ⊥
      at stops.Usage e = cc
      at (stops.Refused why) e = cc
      at (stops.Unfinished level limit) e = cc
      at stops.ReadFault e = cc
      at stops.WriteFault e = cc
      at stops.Memory e = cc
  unevaluated ending (inr (inl is)) = at stop (own_line stop status statuses.Usage before now told is (λ e. cc)).0 ending
    where
      at : (s : Stop) → status_of s ≡ statuses.Usage → ShowsEnding (meaning job) (told_all held (files_in job)) t (Err s) → IsNoTrail t
      at stops.Usage e h = h
      at (stops.Refused why) e h = h
      at (stops.Unfinished level limit) e h = absurd (cc)
      at stops.ReadFault e h = h
      at stops.WriteFault e h = absurd (cc)
      at stops.Memory e h = absurd (cc)
  unevaluated ending (inr (inr (inl is))) = at stop (own_line stop status statuses.Refused before now told is (λ e. cc)).0 ending
    where
      at : (s : Stop) → status_of s ≡ statuses.Refused → ShowsEnding (meaning job) (told_all held (files_in job)) t (Err s) → IsNoTrail t
      at stops.Usage e h = h
      at (stops.Refused why) e h = h
      at (stops.Unfinished level limit) e h = absurd (cc)
      at stops.ReadFault e h = h
      at stops.WriteFault e h = absurd (cc)
      at stops.Memory e h = absurd (cc)
  unevaluated ending (inr (inr (inr is))) = at stop (own_line stop status statuses.ReadFault before now told is (λ e. cc)).0 ending
    where
      at : (s : Stop) → status_of s ≡ statuses.ReadFault → ShowsEnding (meaning job) (told_all held (files_in job)) t (Err s) → IsNoTrail t
      at stops.Usage e h = h
      at (stops.Refused why) e h = h
      at (stops.Unfinished level limit) e h = absurd (cc)
      at stops.ReadFault e h = h
      at stops.WriteFault e h = absurd (cc)
      at stops.Memory e h = absurd (cc)

  never_done : status ≡ statuses.Done → ⊥
  never_done is = at stop (own_line stop status statuses.Done before now told is (λ e. cc)).0
    where
      at : (s : Stop) → status_of s ≡ statuses.Done → ⊥
      at stops.Usage e = cc
      at (stops.Refused why) e = cc
      at (stops.Unfinished level limit) e = cc
      at stops.ReadFault e = cc
      at stops.WriteFault e = cc
      at stops.Memory e = cc

  module _ (rose failed wrote : Type 0) (cause : IsStopCause stop rose failed wrote (meaning job) (told_all held (files_in job))) where
    spent_told : ShowsEnding (meaning job) (told_all held (files_in job)) t (Err stop) → status ≡ statuses.Unfinished → IfSome (told_all held (files_in job)) (ShowsNoted before.notes now.notes t (meaning job))
    spent_told ending is = let own = own_line stop status statuses.Unfinished before now told is (λ e. cc) in at stop own.0 own.1 cause ending
      where
        at : (s : Stop) → status_of s ≡ statuses.Unfinished → now.notes ≡ noted before.notes (line_of s) → IsStopCause s rose failed wrote (meaning job) (told_all held (files_in job)) → ShowsEnding (meaning job) (told_all held (files_in job)) t (Err s)
            → IfSome (told_all held (files_in job)) (ShowsNoted before.notes now.notes t (meaning job))
        at stops.Usage e line why h = absurd (cc)
        at (stops.Refused r) e line why h = absurd (cc)
        at (stops.Unfinished level limit) e line why h = told_also (told_all held (files_in job)) _ _ (λ fs shows. record { level = level; shows = shows; line = line ∙ ap (λ (n : ℕ). noted before.notes (unfinished_line level n)) why }) h
        at stops.ReadFault e line why h = absurd (cc)
        at stops.WriteFault e line why h = absurd (cc)
        at stops.Memory e line why h = absurd (cc)

    pub stop_kept : LeavesTrail (meaning job) (told_all held (files_in job)) t (Err stop) → KeepsTrail words held before.notes now.notes status t
    stop_kept l = record {
      alone = alone_kept words held before.notes now.notes t job asked l.alone;
      few = few_kept words held before.notes now.notes t job asked l.few;
      unevaluated = unevaluated l.ending;
      done = λ is. absurd (never_done is);
      spent = λ is. record { job = job; asked = asked; of_files = spent_told l.ending is };
    }
