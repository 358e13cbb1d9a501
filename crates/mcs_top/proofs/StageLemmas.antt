-- What a job leaves that lists the system of a file or a generated one, and why it stops.
use Rattle.std.proofs.Common.{ℕ, List, [], Option, Some, None, Result, Ok, Err, IfSome, IfOk, IfErr, OnOk, inl, inr, refl}
use Rattle.mcs_system.specs.Plain.{System}
use Rattle.mcs_work.specs.declared.task.Task.{Task}
use Rattle.mcs_work.specs.declared.task.Task.TheVariants.{Make}
use Rattle.mcs_words.specs.Commands.{Word}
use Rattle.mcs_listing.specs.Jobs.{File, OfOneFile}
use Rattle.mcs_listing.specs.Texts.{IsTextFor, IsRefusedTask, StopsReading}
use Rattle.mcs_top.specs.Meaning.{JobMeaning, IsWithinBudget, OfTask, file_job, made_job}
use Rattle.mcs_top.specs.Promise.{WritesOutput, WritesStage, IsStopCause, LeavesText, Excludes, EndsSo, as_done}
use Rattle.mcs_listing.specs.Listings.{IsListingText, IsListedBefore, AfterNumber, Prints, PrintsFront, StopsStages, StopsGenerated}
use Rattle.mcs_top.specs.declared.outcome.Outcome.TheVariants as outcomes
use Rattle.mcs_listing.specs.declared.ending.Refusal.{Refusal}
use Rattle.mcs_listing.specs.declared.ending.Stop.{Stop}
use Rattle.mcs_listing.specs.declared.ending.Stop.TheVariants as stops
use Rattle.mcs_listing.proofs.JobLemmas.{told_also, of_file}

-- ---- a file that could not be read, whatever the job
pub read_left : (job : JobMeaning) (Refuses : Refusal → List ℕ → Type 0) (shelf-rose failed : Type 0) (told files : Option (List File)) (now : Option (List ℕ)) (stop : Stop) → StopsReading Refuses stop shelf-rose failed told → LeavesText stop job files now now
read_left job Refuses shelf-rose failed told files now stops.Usage h = refl
read_left job Refuses shelf-rose failed told files now (stops.Refused why) h = refl
read_left job Refuses shelf-rose failed told files now (stops.Unfinished level limit) h = absurd h
read_left job Refuses shelf-rose failed told files now stops.ReadFault h = refl
read_left job Refuses shelf-rose failed told files now stops.WriteFault h = absurd h
read_left job Refuses shelf-rose failed told files now stops.Memory h = inl refl

-- what holds of the system that was read holds of the one that the file spells
pub spelled : (task : Task) (m : System) (files : Option (List File)) → IfSome files (OfOneFile (IsTextFor task m)) → (P : System → Type 0) → P m → IfSome files (OfOneFile (OfTask task P))
spelled task m files read P holds = told_also files (OfOneFile (IsTextFor task m)) (OfOneFile (OfTask task P)) (of_file (IsTextFor task m) (OfTask task P) (λ bytes is. (m, is, holds))) read

-- ---- a job for the system of one file
module _ (IsText IsPart : System → List ℕ → Type 0) (task : Task) (name : Word) (budget workers : ℕ) where
  abbrev means : JobMeaning
  means = file_job IsText IsPart task name budget workers

  pub read_cause : (shelf-rose failed sink-rose : Type 0) (files : Option (List File)) (stop : Stop) → StopsReading (IsRefusedTask task) stop shelf-rose failed files → IsStopCause stop shelf-rose failed sink-rose means files
  read_cause shelf-rose failed sink-rose files stops.Usage h = h
  read_cause shelf-rose failed sink-rose files (stops.Refused why) h = h
  read_cause shelf-rose failed sink-rose files (stops.Unfinished level limit) h = absurd h
  read_cause shelf-rose failed sink-rose files stops.ReadFault h = h
  read_cause shelf-rose failed sink-rose files stops.WriteFault h = absurd h
  read_cause shelf-rose failed sink-rose files stops.Memory h = tt

  module _ (m : System) (files : Option (List File)) (read : IfSome files (OfOneFile (IsTextFor task m))) where
    stage_written : (before now : Option (List ℕ)) → PrintsFront (IsPart m) before now → IfSome files (WritesStage before now means)
    stage_written before now p = told_also files _ _ (λ fs h. record { text = p.text; holds = h; front = p.front }) (spelled task m files read (λ n. IsPart n p.text) p.holds)

    pub file_listed : (before now : Option (List ℕ)) (r : Result (Unit {0}) Stop) → OnOk r (Prints (λ text. IsWithinBudget IsText task budget text m) before now) → OnOk r (IfSome files (WritesOutput before now means))
    file_listed before now (Err stop) p = tt
    file_listed before now (Ok x) p = told_also files _ _ (λ fs h. record { text = p.text; holds = h; written = p.written }) (spelled task m files read (IsWithinBudget IsText task budget p.text) p.holds)

    file_cause : (shelf-rose failed sink-rose : Type 0) (before now : Option (List ℕ)) (stop : Stop) → StopsStages IsPart stop task budget m sink-rose before now → IsStopCause stop shelf-rose failed sink-rose means files
    file_cause shelf-rose failed sink-rose before now stops.Usage h = h
    file_cause shelf-rose failed sink-rose before now (stops.Refused why) h = absurd h
    file_cause shelf-rose failed sink-rose before now (stops.Unfinished level limit) h = h.0
    file_cause shelf-rose failed sink-rose before now stops.ReadFault h = absurd h
    file_cause shelf-rose failed sink-rose before now stops.WriteFault h = h.0
    file_cause shelf-rose failed sink-rose before now stops.Memory h = tt

    file_left : (sink-rose : Type 0) (before now : Option (List ℕ)) (stop : Stop) → StopsStages IsPart stop task budget m sink-rose before now → LeavesText stop means files before now
    file_left sink-rose before now stops.Usage h = absurd h
    file_left sink-rose before now (stops.Refused why) h = absurd h
    file_left sink-rose before now (stops.Unfinished level limit) h =
        told_also files _ _ (λ fs k. record { text = h.1.text; holds = k; written = h.1.written }) (spelled task m files read (IsListedBefore task budget level h.1.text) h.1.holds)
    file_left sink-rose before now stops.ReadFault h = absurd h
    file_left sink-rose before now stops.WriteFault h = stage_written before now h.1
    file_left sink-rose before now stops.Memory h = inr (stage_written before now h)

    pub file_causes : (shelf-rose failed sink-rose : Type 0) (before now : Option (List ℕ)) (r : Result (Unit {0}) Stop) → IfErr r (λ stop. StopsStages IsPart stop task budget m sink-rose before now)
        → IfErr r (λ stop. IsStopCause stop shelf-rose failed sink-rose means files)
    file_causes shelf-rose failed sink-rose before now (Ok x) h = tt
    file_causes shelf-rose failed sink-rose before now (Err stop) h = file_cause shelf-rose failed sink-rose before now stop h

    pub file_leaves : (sink-rose : Type 0) (before now : Option (List ℕ)) (r : Result (Unit {0}) Stop) → IfErr r (λ stop. StopsStages IsPart stop task budget m sink-rose before now) → IfErr r (λ stop. LeavesText stop means files before now)
    file_leaves sink-rose before now (Ok x) h = tt
    file_leaves sink-rose before now (Err stop) h = file_left sink-rose before now stop h

-- ---- a generated system, as the job of a command, which reads no file
module _ (number budget workers : ℕ) (before now : Option (List ℕ)) where
  pub made_output : (r : Result (Unit {0}) Stop) → OnOk r (Prints (AfterNumber (IsListingText Make budget) number) before now) → OnOk r (WritesOutput before now (made_job number budget workers) [])
  made_output (Err stop) p = tt
  made_output (Ok x) p = record { text = p.text; holds = p.holds; written = p.written }

  made_cause : (shelf-rose failed sink-rose : Type 0) (stop : Stop) → StopsGenerated stop number budget sink-rose before now → IsStopCause stop shelf-rose failed sink-rose (made_job number budget workers) (Some [])
  made_cause shelf-rose failed sink-rose stops.Usage h = h
  made_cause shelf-rose failed sink-rose (stops.Refused why) h = absurd h
  made_cause shelf-rose failed sink-rose (stops.Unfinished level limit) h = h.0
  made_cause shelf-rose failed sink-rose stops.ReadFault h = absurd h
  made_cause shelf-rose failed sink-rose stops.WriteFault h = h.0
  made_cause shelf-rose failed sink-rose stops.Memory h = tt

  made_left : (sink-rose : Type 0) (stop : Stop) → StopsGenerated stop number budget sink-rose before now → LeavesText stop (made_job number budget workers) (Some []) before now
  made_left sink-rose stops.Usage h = absurd h
  made_left sink-rose (stops.Refused why) h = absurd h
  made_left sink-rose (stops.Unfinished level limit) h = record { text = h.1.text; holds = h.1.holds; written = h.1.written }
  made_left sink-rose stops.ReadFault h = absurd h
  made_left sink-rose stops.WriteFault h = record { text = h.1.text; holds = h.1.holds; front = h.1.front }
  made_left sink-rose stops.Memory (inl same) = inl same
  made_left sink-rose stops.Memory (inr h) = inr (record { text = h.text; holds = h.holds; front = h.front })

  pub made_causes : (shelf-rose failed sink-rose : Type 0) (r : Result (Unit {0}) Stop) → IfErr r (λ stop. StopsGenerated stop number budget sink-rose before now)
      → IfErr r (λ stop. IsStopCause stop shelf-rose failed sink-rose (made_job number budget workers) (Some []))
  made_causes shelf-rose failed sink-rose (Ok x) h = tt
  made_causes shelf-rose failed sink-rose (Err stop) h = made_cause shelf-rose failed sink-rose stop h

  pub made_leaves : (sink-rose : Type 0) (r : Result (Unit {0}) Stop) → IfErr r (λ stop. StopsGenerated stop number budget sink-rose before now) → IfErr r (λ stop. LeavesText stop (made_job number budget workers) (Some []) before now)
  made_leaves sink-rose (Ok x) h = tt
  made_leaves sink-rose (Err stop) h = made_left sink-rose stop h

-- ---- a job that was done unless it stopped
pub done_ends : (job : JobMeaning) (files : Option (List File)) (before now : Option (List ℕ)) → ((fs : List File) → Excludes outcomes.Done job fs) → (r : Result (Unit {0}) Stop) → OnOk r (IfSome files (WritesOutput before now job))
    → IfOk (as_done r) (λ outcome. IfSome files (EndsSo outcome before now job))
done_ends job None before now never (Ok x) w = tt
done_ends job (Some fs) before now never (Ok x) w = record { writes = w; only = never fs }
done_ends job files before now never (Err stop) w = tt

pub done_stops : (P : Stop → Type 0) (r : Result (Unit {0}) Stop) → IfErr r P → IfErr (as_done r) P
done_stops P (Ok x) h = tt
done_stops P (Err stop) h = h
