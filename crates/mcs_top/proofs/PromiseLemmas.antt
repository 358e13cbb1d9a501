-- What a run promises is kept, however it ends.
use Rattle.std.proofs.Common.{◌≡◌, ℕ, ◌≤◌, List, Option, Some, None, IfSome, inl, inr, refl, sym, subst, arith}
use Rattle.mcs_ports.specs.Causes.{Rose}
use Rattle.mcs_ports.specs.Pieces.{Device, noted}
use Rattle.mcs_words.specs.Commands.{Word, Request, IsJobOf}
use Rattle.mcs_words.specs.declared.job.WordsFault.{WordsFault}
use Rattle.mcs_words.specs.declared.job.WordsFault.TheVariants as words
use Rattle.mcs_words.proofs.JobLemmas.{asked_once}
use Rattle.mcs_listing.specs.Jobs.{File, told_all}
use Rattle.mcs_listing.specs.Endings.{line_of, stop_for_words, IsEndingTold, IsToldAs}
use Rattle.mcs_top.specs.Meaning.{JobMeaning, meaning, files_in, OfJob}
use Rattle.mcs_top.specs.Promise.{CanBeDone, CanBeRejected, EndsSo, IsStopCause, LeavesText, IsUnlessMemory, CannotBeRead, CallHasFailed, KeepsPromise}
use Rattle.mcs_top.specs.declared.outcome.Outcome.TheVariants as outcomes
use Rattle.mcs_listing.specs.declared.ending.Stop.{Stop}
use Rattle.mcs_listing.specs.declared.ending.Stop.TheVariants as stops
use Rattle.mcs_listing.specs.declared.status.Status.{Status}
use Rattle.mcs_listing.specs.declared.status.Status.TheVariants as statuses
use Rattle.mcs_top.proofs.EndingLemmas as endings
use Rattle.mcs_top.proofs.RefusalLemmas.{apart}

-- ---- what is told of a device that a part of the run left as it was
pub told_since : (stop : Stop) (status : Status) (before mid now : Device) → mid.notes ≡ before.notes → IsEndingTold stop status mid now → IsEndingTold stop status before now
told_since stop status before mid now same (inl own) = inl (record { status_is = own.status_is; notes = subst (λ (n : Option (List ℕ)). now.notes ≡ noted n (line_of stop)) same own.notes })
told_since stop status before mid now same (inr want) = inr (record { status_is = want.status_is; notes = subst (λ (n : Option (List ℕ)). now.notes ≡ noted n (line_of stops.Memory)) same want.notes })

-- ---- the one job that words ask for
-- what holds of the job that was found holds of each that the words ask for, since that is one
pub if_job : (words : List Word) (job : Request) → IsJobOf words job → (held : Option (Word → File)) (P : Request → List File → Type 0)
    → IfSome (told_all held (files_in job)) (P job) → (other : Request) → IsJobOf words other → IfSome (told_all held (files_in other)) (P other)
if_job words job asked held P there other other_asked = subst (λ (j : Request). IfSome (told_all held (files_in j)) (P j)) (asked_once words job other asked other_asked) there

-- ---- the cause of a failed read, by both counts
both_rose : (stop : Stop) (rose failed wrote : Type 0) (job : JobMeaning) (files : Option (List File)) → IsStopCause stop rose failed wrote job files → IsStopCause stop rose (rose × failed) wrote job files
both_rose stops.Usage rose failed wrote job files h = h
both_rose (stops.Refused why) rose failed wrote job files h = h
both_rose (stops.Unfinished level budget) rose failed wrote job files h = h
both_rose stops.ReadFault rose failed wrote job files h = (h.0, at files h.1)
  where
    at : (fs : Option (List File)) → IfSome fs (CannotBeRead failed job) → IfSome fs (CannotBeRead (rose × failed) job)
    at None told = tt
    at (Some gs) (inl lacks) = inl lacks
    at (Some gs) (inr broke) = inr (h.0, broke)
both_rose stops.WriteFault rose failed wrote job files h = h
both_rose stops.Memory rose failed wrote job files h = h

module _ (asked_words : List Word) (held : Option (Word → File)) (faults faults' failures failures' : ℕ) (device device' : Device) (later : faults ≤ faults') where
  abbrev Kept : Status → Type 0
  Kept status = KeepsPromise asked_words held faults faults' failures failures' device device' status

  -- the counts that rose
  abbrev rose : Type 0
  rose = Rose faults faults'

  abbrev failed : Type 0
  failed = CallHasFailed faults faults' failures failures'

  abbrev wrote : Type 0
  wrote = Rose device.faults device'.faults

  -- ---- nothing was written, and no write failed
  module _ (written : device'.written ≡ device.written) (still : device'.faults ≡ device.faults) where
    -- memory ran out
    want_kept : device'.notes ≡ noted device.notes (line_of stops.Memory) → Kept statuses.OutOfMemory
    want_kept line = record {
      usage = λ is. absurd (cc);
      no_job = λ none. inr refl;
      read_fault = λ is. absurd (cc);
      write_fault = λ is. absurd (cc);
      shelf_later = later;
      sink_later = omega (arith, still);
      unfailed = λ other. still;
      refused = λ is. absurd (cc);
      refusal = λ job asked. endings.memory_refuses statuses.OutOfMemory refl (meaning job) _ _;
      unreadable = λ is. absurd (cc);
      missing = λ job asked. endings.memory_misses statuses.OutOfMemory refl (meaning job) _;
      beyond = λ is. absurd (cc);
      spent = λ job asked. endings.memory_spends statuses.OutOfMemory refl (meaning job) _ _ _;
      not_valid = λ is. absurd (cc);
      invalid = λ job asked. endings.memory_rejects statuses.OutOfMemory refl (meaning job) _ _ _;
      done = λ is. absurd (cc);
      complete = λ job asked. endings.memory_completes statuses.OutOfMemory refl (meaning job) _ _ _;
      unfinished = λ is. absurd (cc);
      out_of_memory = λ is. inl written;
      silent = λ is. written;
      notes = line;
    }

    pub memory_kept : (status : Status) → IsToldAs stops.Memory status device device' → Kept status
    memory_kept status told = subst Kept (sym told.status_is) (want_kept told.notes)

    -- the words are no job
    usage_kept : ((job : Request) → ¬ IsJobOf asked_words job) → device'.notes ≡ noted device.notes (line_of stops.Usage) → Kept statuses.Usage
    usage_kept none line = record {
      usage = λ is. none;
      no_job = λ words_ask. inl refl;
      read_fault = λ is. absurd (cc);
      write_fault = λ is. absurd (cc);
      shelf_later = later;
      sink_later = omega (arith, still);
      unfailed = λ other. still;
      refused = λ is. absurd (cc);
      refusal = λ job asked. absurd (none job asked);
      unreadable = λ is. absurd (cc);
      missing = λ job asked. absurd (none job asked);
      beyond = λ is. absurd (cc);
      spent = λ job asked. absurd (none job asked);
      not_valid = λ is. absurd (cc);
      invalid = λ job asked. absurd (none job asked);
      done = λ is. absurd (cc);
      complete = λ job asked. absurd (none job asked);
      unfinished = λ is. absurd (cc);
      out_of_memory = λ is. inl written;
      silent = λ is. written;
      notes = line;
    }

    -- they could not be read
    pub words_kept : (fault : WordsFault) (stop : Stop) (status : Status) → stop ≡ stop_for_words fault → (fault ≡ words.Usage → (job : Request) → ¬ IsJobOf asked_words job) → IsEndingTold stop status device device' → Kept status
    words_kept fault stop status is none told = at fault none (subst (λ (s : Stop). IsEndingTold s status device device') is told)
      where
        at : (f : WordsFault) → (f ≡ words.Usage → (job : Request) → ¬ IsJobOf asked_words job) → IsEndingTold (stop_for_words f) status device device' → Kept status
        at words.Usage never (inl own) = subst Kept (sym own.status_is) (usage_kept (never refl) own.notes)
        at words.Usage never (inr want) = memory_kept status want
        at words.Memory never (inl own) = memory_kept status own
        at words.Memory never (inr want) = memory_kept status want

  -- ---- the words ask for a job
  module _ (job : Request) (asked : IsJobOf asked_words job) where
    abbrev means : JobMeaning
    means = meaning job

    abbrev files : Option (List File)
    files = told_all held (files_in job)

    -- what holds of it and of its files
    of_job : (P : JobMeaning → List File → Type 0) → IfSome files (P means) → OfJob asked_words held P
    of_job P holds = record { job = job; asked = asked; of_files = holds }

    if_this : (P : Request → List File → Type 0) → IfSome files (P job) → (other : Request) → IsJobOf asked_words other → IfSome (told_all held (files_in other)) (P other)
    if_this P holds = if_job asked_words job asked held P holds

    -- it was done
    pub done_kept : device'.notes ≡ device.notes → device'.faults ≡ device.faults → IfSome files (EndsSo outcomes.Done device.written device'.written means) → Kept statuses.Done
    done_kept same still ends = record {
      usage = λ is. absurd (cc);
      no_job = λ none. absurd (none job asked);
      read_fault = λ is. absurd (cc);
      write_fault = λ is. absurd (cc);
      shelf_later = later;
      sink_later = omega (arith, still);
      unfailed = λ other. still;
      refused = λ is. absurd (cc);
      refusal = if_this _ (endings.done_refuses statuses.Done means device.written device'.written (apart job) files (CallHasFailed faults faults' failures failures') ends);
      unreadable = λ is. absurd (cc);
      missing = if_this _ (endings.done_misses statuses.Done means device.written device'.written (apart job) files ends);
      beyond = λ is. absurd (cc);
      spent = if_this _ (endings.done_spends statuses.Done means device.written device'.written (apart job) files (CallHasFailed faults faults' failures failures') (Rose device.faults device'.faults) ends);
      not_valid = λ is. absurd (cc);
      invalid = if_this _ (endings.done_rejects statuses.Done means device.written device'.written (apart job) files (CallHasFailed faults faults' failures failures') (Rose device.faults device'.faults) ends);
      done = λ is. of_job _ (endings.done_writes statuses.Done means device.written device'.written (apart job) files ends);
      complete = λ other other_asked. done_anyway other;
      unfinished = λ is. absurd (cc);
      out_of_memory = λ is. absurd (cc);
      silent = λ is. elim is [ inl e ↦ absurd (cc) | inr more ↦ elim more [ inl e ↦ absurd (cc) | inr e ↦ absurd (cc) ] ];
      notes = same;
    }
      where
        done_anyway : (other : Request) → IfSome (told_all held (files_in other)) (λ fs. CanBeDone (meaning other) fs → ¬ CallHasFailed faults faults' failures failures' → ¬ Rose device.faults device'.faults → IsUnlessMemory statuses.Done statuses.Done)
        done_anyway other = always (told_all held (files_in other))
          where
            always : (fs : Option (List File)) → IfSome fs (λ gs. CanBeDone (meaning other) gs → ¬ CallHasFailed faults faults' failures failures' → ¬ Rose device.faults device'.faults → IsUnlessMemory statuses.Done statuses.Done)
            always None = tt
            always (Some gs) = λ can calm quiet. inl refl

    -- a report was found not valid
    pub rejected_kept : device'.notes ≡ device.notes → device'.faults ≡ device.faults → IfSome files (EndsSo outcomes.NotValid device.written device'.written means) → Kept statuses.NotValid
    rejected_kept same still ends = record {
      usage = λ is. absurd (cc);
      no_job = λ none. absurd (none job asked);
      read_fault = λ is. absurd (cc);
      write_fault = λ is. absurd (cc);
      shelf_later = later;
      sink_later = omega (arith, still);
      unfailed = λ other. still;
      refused = λ is. absurd (cc);
      refusal = if_this _ (endings.rejected_refuses statuses.NotValid means device.written device'.written (apart job) files (CallHasFailed faults faults' failures failures') ends);
      unreadable = λ is. absurd (cc);
      missing = if_this _ (endings.rejected_misses statuses.NotValid means device.written device'.written (apart job) files ends);
      beyond = λ is. absurd (cc);
      spent = if_this _ (endings.rejected_spends statuses.NotValid means device.written device'.written (apart job) files (CallHasFailed faults faults' failures failures') (Rose device.faults device'.faults) ends);
      not_valid = λ is. of_job _ (endings.rejected_writes statuses.NotValid means device.written device'.written (apart job) files ends);
      invalid = λ other other_asked. rejected_anyway other;
      done = λ is. absurd (cc);
      complete = if_this _ (endings.rejected_completes statuses.NotValid means device.written device'.written (apart job) files (CallHasFailed faults faults' failures failures') (Rose device.faults device'.faults) ends);
      unfinished = λ is. absurd (cc);
      out_of_memory = λ is. absurd (cc);
      silent = λ is. elim is [ inl e ↦ absurd (cc) | inr more ↦ elim more [ inl e ↦ absurd (cc) | inr e ↦ absurd (cc) ] ];
      notes = same;
    }
      where
        rejected_anyway : (other : Request) → IfSome (told_all held (files_in other)) (λ fs. CanBeRejected (meaning other) fs → ¬ CallHasFailed faults faults' failures failures' → ¬ Rose device.faults device'.faults → IsUnlessMemory statuses.NotValid statuses.NotValid)
        rejected_anyway other = always (told_all held (files_in other))
          where
            always : (fs : Option (List File)) → IfSome fs (λ gs. CanBeRejected (meaning other) gs → ¬ CallHasFailed faults faults' failures failures' → ¬ Rose device.faults device'.faults → IsUnlessMemory statuses.NotValid statuses.NotValid)
            always None = tt
            always (Some gs) = λ can calm quiet. inl refl

    -- it stopped
    pub stop_kept : (stop : Stop) (status : Status) → IsEndingTold stop status device device' → IsStopCause stop (Rose faults faults') (Rose failures failures') (Rose device.faults device'.faults) means files
        → LeavesText stop means files device.written device'.written → device.faults ≤ device'.faults → (¬ (status ≡ statuses.WriteFault) → device'.faults ≡ device.faults) → Kept status
    stop_kept stop status told alone leaves up unfailed = let cause = both_rose stop rose (Rose failures failures') wrote means files alone in record {
      usage = λ is. absurd (endings.never_usage stop status device device' told rose failed wrote means files cause is);
      no_job = λ none. absurd (none job asked);
      read_fault = endings.read_rose stop status device device' told rose failed wrote means files cause;
      write_fault = endings.write_rose stop status device device' told rose failed wrote means files cause;
      shelf_later = later;
      sink_later = up;
      unfailed = unfailed;
      refused = λ is. of_job _ (endings.tells_refusal stop status device device' told rose failed wrote means files cause is);
      refusal = if_this _ (endings.stop_refuses stop status device device' told rose failed wrote means files cause device.written device'.written leaves (apart job));
      unreadable = λ is. of_job _ (endings.read_lacks stop status device device' told rose failed wrote means files cause is);
      missing = if_this _ (endings.stop_misses stop status device device' told rose failed wrote means files cause device.written device'.written leaves (apart job));
      beyond = λ is. of_job _ (endings.stops_beyond stop status device device' told rose failed wrote means files cause device.written device'.written leaves (apart job) is);
      spent = if_this _ (endings.stop_spends stop status device device' told rose failed wrote means files cause device.written device'.written leaves (apart job));
      not_valid = λ is. absurd (endings.never_not_valid stop status device device' told rose failed wrote means files cause is);
      invalid = if_this _ (endings.stop_rejects stop status device device' told rose failed wrote means files cause device.written device'.written leaves (apart job));
      done = λ is. absurd (endings.never_done stop status device device' told rose failed wrote means files cause is);
      complete = if_this _ (endings.stop_completes stop status device device' told rose failed wrote means files cause device.written device'.written leaves (apart job));
      unfinished = λ is. of_job _ (endings.unfinished stop status device device' told rose failed wrote means files cause device.written device'.written leaves (apart job) is);
      out_of_memory = λ is. elim (endings.at_most stop status device device' told rose failed wrote means files cause device.written device'.written leaves (apart job)) [
        | inl same ↦ inl same
        | inr staged ↦ inr (of_job _ staged)
      ];
      silent = endings.silent stop status device device' told rose failed wrote means files cause device.written device'.written leaves (apart job);
      notes = endings.told_notes stop status device device' told;
    }
