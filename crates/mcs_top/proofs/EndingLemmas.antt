-- What a run answers, notes and leaves where it stops.
use Rattle.std.proofs.Common.{◌≡◌, ◌⊎◌, ℕ, List, Option, Some, None, IfSome, inl, inr, refl, sym, ◌∙◌, subst}
use Rattle.mcs_ports.specs.Pieces.{Device, noted}
use Rattle.mcs_words.specs.declared.job.WordsFault.{WordsFault}
use Rattle.mcs_words.specs.declared.job.WordsFault.TheVariants as words
use Rattle.mcs_listing.specs.declared.ending.Refusal.{Refusal}
use Rattle.mcs_listing.specs.declared.ending.Stop.{Stop}
use Rattle.mcs_listing.specs.declared.ending.Stop.TheVariants as stops
use Rattle.mcs_listing.specs.declared.status.Status.{Status}
use Rattle.mcs_listing.specs.declared.status.Status.TheVariants as statuses
use Rattle.mcs_listing.specs.Jobs.{File}
use Rattle.mcs_listing.specs.Endings.{line_of, status_of, refusal_line, unfinished_line, stop_for_words, IsEndingTold, IsToldAs}
use Rattle.mcs_top.specs.Meaning.{JobMeaning}
use Rattle.mcs_top.specs.Promise.{IsRefusal, LacksBudget, WritesBeyond, StopsBeyond, LacksFile, CanBeDone, CanBeRejected, EndsSo, WritesOutput, WritesRejection, WritesStage, TellsRefusal, Notes, IsUnlessMemory, CannotBeRead, IsStopCause, LeavesText}
use Rattle.mcs_top.specs.declared.outcome.Outcome.TheVariants as outcomes
use Rattle.mcs_top.proofs.RefusalLemmas.{KeepsApart, whole_front}

-- ---- what a stop is told as
pub told_status : (stop : Stop) (status : Status) (before now : Device) → IsEndingTold stop status before now → IsUnlessMemory (status_of stop) status
told_status stop status before now (inl own) = inl own.status_is
told_status stop status before now (inr want) = inr want.status_is

-- where another status than that of want of memory is told, it is the stop's own
pub own_line : (stop : Stop) (status due : Status) (before now : Device) → IsEndingTold stop status before now → status ≡ due → ¬ (due ≡ statuses.OutOfMemory) → (status_of stop ≡ due) × (now.notes ≡ noted before.notes (line_of stop))
own_line stop status due before now (inl own) is other = (sym own.status_is ∙ is, own.notes)
own_line stop status due before now (inr want) is other = absurd (other (sym is ∙ want.status_is))

notes_as : (stop : Stop) (status : Status) (before now : Device) → IsToldAs stop status before now → Notes status before.notes now.notes
notes_as stop status before now h = subst (λ (s : Status). Notes s before.notes now.notes) (sym h.status_is) (at stop h.notes)
  where
    at : (s : Stop) → now.notes ≡ noted before.notes (line_of s) → Notes (status_of s) before.notes now.notes
    at stops.Usage is = is
    at (stops.Refused why) is = (why, is)
    at (stops.Unfinished level budget) is = (level, budget, is)
    at stops.ReadFault is = is
    at stops.WriteFault is = is
    at stops.Memory is = is

pub told_notes : (stop : Stop) (status : Status) (before now : Device) → IsEndingTold stop status before now → Notes status before.notes now.notes
told_notes stop status before now (inl own) = notes_as stop status before now own
told_notes stop status before now (inr want) = notes_as stops.Memory status before now want

-- ---- words that are no job
pub words_told : (fault : WordsFault) (stop : Stop) (status : Status) (before now : Device) → stop ≡ stop_for_words fault → IsEndingTold stop status before now
    → ((status ≡ statuses.Usage) × (fault ≡ words.Usage)) ⊎ (status ≡ statuses.OutOfMemory)
words_told fault stop status before now is told = at fault (told_status (stop_for_words fault) status before now (subst (λ (s : Stop). IsEndingTold s status before now) is told))
  where
    at : (f : WordsFault) → IsUnlessMemory (status_of (stop_for_words f)) status → ((status ≡ statuses.Usage) × (f ≡ words.Usage)) ⊎ (status ≡ statuses.OutOfMemory)
    at words.Usage (inl due) = inl (due, refl)
    at words.Usage (inr want) = inr want
    at words.Memory (inl want) = inr want
    at words.Memory (inr want) = inr want

-- ---- a job that stops
module _ (stop : Stop) (status : Status) (before now : Device) (told : IsEndingTold stop status before now) (shelf-rose failed sink-rose : Type 0) (job : JobMeaning) (files : Option (List File)) (cause : IsStopCause stop shelf-rose failed sink-rose job files) where
  pub never_usage : status ≡ statuses.Usage → ⊥
  never_usage is = at stop (own_line stop status statuses.Usage before now told is (λ e. cc)).0 cause
    where
      at : (s : Stop) → status_of s ≡ statuses.Usage → IsStopCause s shelf-rose failed sink-rose job files → ⊥
      at stops.Usage e h = h
      at (stops.Refused why) e h = cc
      at (stops.Unfinished level budget) e h = cc
      at stops.ReadFault e h = cc
      at stops.WriteFault e h = cc
      at stops.Memory e h = cc

  pub never_done : status ≡ statuses.Done → ⊥
  never_done is = at stop (own_line stop status statuses.Done before now told is (λ e. cc)).0
    where
      at : (s : Stop) → status_of s ≡ statuses.Done → ⊥
      at stops.Usage e = cc
      at (stops.Refused why) e = cc
      at (stops.Unfinished level budget) e = cc
      at stops.ReadFault e = cc
      at stops.WriteFault e = cc
      at stops.Memory e = cc

  pub never_not_valid : status ≡ statuses.NotValid → ⊥
  never_not_valid is = at stop (own_line stop status statuses.NotValid before now told is (λ e. cc)).0
    where
      at : (s : Stop) → status_of s ≡ statuses.NotValid → ⊥
      at stops.Usage e = cc
      at (stops.Refused why) e = cc
      at (stops.Unfinished level budget) e = cc
      at stops.ReadFault e = cc
      at stops.WriteFault e = cc
      at stops.Memory e = cc

  pub read_rose : status ≡ statuses.ReadFault → shelf-rose
  read_rose is = at stop (own_line stop status statuses.ReadFault before now told is (λ e. cc)).0 cause
    where
      at : (s : Stop) → status_of s ≡ statuses.ReadFault → IsStopCause s shelf-rose failed sink-rose job files → shelf-rose
      at stops.Usage e h = absurd h
      at (stops.Refused why) e h = absurd (cc)
      at (stops.Unfinished level budget) e h = absurd (cc)
      at stops.ReadFault e h = h.0
      at stops.WriteFault e h = absurd (cc)
      at stops.Memory e h = absurd (cc)

  pub read_lacks : status ≡ statuses.ReadFault → IfSome files (CannotBeRead failed job)
  read_lacks is = at stop (own_line stop status statuses.ReadFault before now told is (λ e. cc)).0 cause
    where
      at : (s : Stop) → status_of s ≡ statuses.ReadFault → IsStopCause s shelf-rose failed sink-rose job files → IfSome files (CannotBeRead failed job)
      at stops.Usage e h = absurd h
      at (stops.Refused why) e h = absurd (cc)
      at (stops.Unfinished level budget) e h = absurd (cc)
      at stops.ReadFault e h = h.1
      at stops.WriteFault e h = absurd (cc)
      at stops.Memory e h = absurd (cc)

  pub write_rose : status ≡ statuses.WriteFault → sink-rose
  write_rose is = at stop (own_line stop status statuses.WriteFault before now told is (λ e. cc)).0 cause
    where
      at : (s : Stop) → status_of s ≡ statuses.WriteFault → IsStopCause s shelf-rose failed sink-rose job files → sink-rose
      at stops.Usage e h = absurd h
      at (stops.Refused why) e h = absurd (cc)
      at (stops.Unfinished level budget) e h = absurd (cc)
      at stops.ReadFault e h = absurd (cc)
      at stops.WriteFault e h = h
      at stops.Memory e h = absurd (cc)

  pub tells_refusal : status ≡ statuses.Refused → IfSome files (TellsRefusal before.notes now.notes job)
  tells_refusal is = let own = own_line stop status statuses.Refused before now told is (λ e. cc) in at stop own.0 own.1 cause
    where
      of : (why : Refusal) (fs : Option (List File)) → now.notes ≡ noted before.notes (refusal_line why) → IfSome fs (IsRefusal why job) → IfSome fs (TellsRefusal before.notes now.notes job)
      of why None line h = tt
      of why (Some fs) line h = record { why = why; reason = h; line = line }

      at : (s : Stop) → status_of s ≡ statuses.Refused → now.notes ≡ noted before.notes (line_of s) → IsStopCause s shelf-rose failed sink-rose job files → IfSome files (TellsRefusal before.notes now.notes job)
      at stops.Usage e line h = absurd h
      at (stops.Refused why) e line h = of why files line h
      at (stops.Unfinished level budget) e line h = absurd (cc)
      at stops.ReadFault e line h = absurd (cc)
      at stops.WriteFault e line h = absurd (cc)
      at stops.Memory e line h = absurd (cc)

  -- ---- and what it leaves
  module _ (first last : Option (List ℕ)) (leaves : LeavesText stop job files first last) (laws : KeepsApart job) where
    pub stop_refuses : IfSome files (λ fs. (why : Refusal) → IsRefusal why job fs → ¬ failed → IsUnlessMemory statuses.Refused status)
    stop_refuses = at stop files (told_status stop status before now told) cause leaves
      where
        at : (s : Stop) (fs : Option (List File)) → IsUnlessMemory (status_of s) status → IsStopCause s shelf-rose failed sink-rose job fs → LeavesText s job fs first last
            → IfSome fs (λ gs. (why : Refusal) → IsRefusal why job gs → ¬ failed → IsUnlessMemory statuses.Refused status)
        at s None due h left = tt
        at stops.Usage (Some fs) due h left = absurd h
        at (stops.Refused r) (Some fs) due h left = λ why reason calm. due
        at (stops.Unfinished level budget) (Some fs) due h left = λ why reason calm. absurd (laws.not_refused why fs (laws.beyond_fits left.text level fs left.holds) reason)
        at stops.ReadFault (Some fs) due h left = λ why reason calm. absurd (elim h.1 [ inl lacks ↦ laws.refusal_not_lacking why fs reason lacks | inr broken ↦ calm broken ])
        at stops.WriteFault (Some fs) due h left = λ why reason calm. absurd (laws.not_refused why fs (laws.stage_fits left.text fs left.holds) reason)
        at stops.Memory (Some fs) due h left = λ why reason calm. elim due [ inl is ↦ inr is | inr is ↦ inr is ]

    pub stop_misses : IfSome files (λ fs. LacksFile job fs → IsUnlessMemory statuses.ReadFault status)
    stop_misses = at stop files (told_status stop status before now told) cause leaves
      where
        at : (s : Stop) (fs : Option (List File)) → IsUnlessMemory (status_of s) status → IsStopCause s shelf-rose failed sink-rose job fs → LeavesText s job fs first last
            → IfSome fs (λ gs. LacksFile job gs → IsUnlessMemory statuses.ReadFault status)
        at s None due h left = tt
        at stops.Usage (Some fs) due h left = absurd h
        at (stops.Refused r) (Some fs) due h left = λ lacks. absurd (laws.refusal_not_lacking r fs h lacks)
        at (stops.Unfinished level budget) (Some fs) due h left = λ lacks. absurd (laws.not_lacking fs (laws.beyond_fits left.text level fs left.holds) lacks)
        at stops.ReadFault (Some fs) due h left = λ lacks. due
        at stops.WriteFault (Some fs) due h left = λ lacks. absurd (laws.not_lacking fs (laws.stage_fits left.text fs left.holds) lacks)
        at stops.Memory (Some fs) due h left = λ lacks. elim due [ inl is ↦ inr is | inr is ↦ inr is ]

    pub stop_completes : IfSome files (λ fs. CanBeDone job fs → ¬ failed → ¬ sink-rose → IsUnlessMemory statuses.Done status)
    stop_completes = at stop files (told_status stop status before now told) cause leaves
      where
        at : (s : Stop) (fs : Option (List File)) → IsUnlessMemory (status_of s) status → IsStopCause s shelf-rose failed sink-rose job fs → LeavesText s job fs first last
            → IfSome fs (λ gs. CanBeDone job gs → ¬ failed → ¬ sink-rose → IsUnlessMemory statuses.Done status)
        at s None due h left = tt
        at stops.Usage (Some fs) due h left = absurd h
        at (stops.Refused r) (Some fs) due h left = λ can calm quiet. absurd (laws.not_refused r fs (laws.possible_fits fs can) h)
        at (stops.Unfinished level budget) (Some fs) due h left = λ can calm quiet. absurd (laws.possible_not_beyond left.text level fs can left.holds)
        at stops.ReadFault (Some fs) due h left = λ can calm quiet. absurd (elim h.1 [ inl lacks ↦ laws.not_lacking fs (laws.possible_fits fs can) lacks | inr broken ↦ calm broken ])
        at stops.WriteFault (Some fs) due h left = λ can calm quiet. absurd (quiet h)
        at stops.Memory (Some fs) due h left = λ can calm quiet. elim due [ inl is ↦ inr is | inr is ↦ inr is ]

    pub stop_rejects : IfSome files (λ fs. CanBeRejected job fs → ¬ failed → ¬ sink-rose → IsUnlessMemory statuses.NotValid status)
    stop_rejects = at stop files (told_status stop status before now told) cause leaves
      where
        at : (s : Stop) (fs : Option (List File)) → IsUnlessMemory (status_of s) status → IsStopCause s shelf-rose failed sink-rose job fs → LeavesText s job fs first last
            → IfSome fs (λ gs. CanBeRejected job gs → ¬ failed → ¬ sink-rose → IsUnlessMemory statuses.NotValid status)
        at s None due h left = tt
        at stops.Usage (Some fs) due h left = absurd h
        at (stops.Refused r) (Some fs) due h left = λ can calm quiet. absurd (laws.not_refused r fs (laws.invalid_fits fs can) h)
        at (stops.Unfinished level budget) (Some fs) due h left = λ can calm quiet. absurd (laws.invalid_not_beyond left.text level fs can left.holds)
        at stops.ReadFault (Some fs) due h left = λ can calm quiet. absurd (elim h.1 [ inl lacks ↦ laws.not_lacking fs (laws.invalid_fits fs can) lacks | inr broken ↦ calm broken ])
        at stops.WriteFault (Some fs) due h left = λ can calm quiet. absurd (quiet h)
        at stops.Memory (Some fs) due h left = λ can calm quiet. elim due [ inl is ↦ inr is | inr is ↦ inr is ]

    pub stop_spends : IfSome files (λ fs. LacksBudget job fs → ¬ failed → ¬ sink-rose → IsUnlessMemory statuses.Unfinished status)
    stop_spends = at stop files (told_status stop status before now told) cause
      where
        at : (s : Stop) (fs : Option (List File)) → IsUnlessMemory (status_of s) status → IsStopCause s shelf-rose failed sink-rose job fs
            → IfSome fs (λ gs. LacksBudget job gs → ¬ failed → ¬ sink-rose → IsUnlessMemory statuses.Unfinished status)
        at s None due h = tt
        at stops.Usage (Some fs) due h = absurd h
        at (stops.Refused r) (Some fs) due h = λ short calm quiet. absurd (laws.not_refused r fs (laws.short_fits fs short) h)
        at (stops.Unfinished at_level budget) (Some fs) due h = λ short calm quiet. due
        at stops.ReadFault (Some fs) due h = λ short calm quiet. absurd (elim h.1 [ inl lacks ↦ laws.not_lacking fs (laws.short_fits fs short) lacks | inr broken ↦ calm broken ])
        at stops.WriteFault (Some fs) due h = λ short calm quiet. absurd (quiet h)
        at stops.Memory (Some fs) due h = λ short calm quiet. elim due [ inl is ↦ inr is | inr is ↦ inr is ]

    pub stops_beyond : status ≡ statuses.Unfinished → IfSome files (StopsBeyond first last before.notes now.notes job)
    stops_beyond is = let own = own_line stop status statuses.Unfinished before now told is (λ e. cc) in at stop own.0 own.1 cause leaves
      where
        of : (level budget : ℕ) (fs : Option (List File)) → now.notes ≡ noted before.notes (unfinished_line level budget) → budget ≡ job.budget → IfSome fs (WritesBeyond level first last job)
            → IfSome fs (StopsBeyond first last before.notes now.notes job)
        of level budget None line same left = tt
        of level budget (Some fs) line same left = record { level = level; writes = left; line = subst (λ (n : ℕ). now.notes ≡ noted before.notes (unfinished_line level n)) same line }

        at : (s : Stop) → status_of s ≡ statuses.Unfinished → now.notes ≡ noted before.notes (line_of s) → IsStopCause s shelf-rose failed sink-rose job files → LeavesText s job files first last
            → IfSome files (StopsBeyond first last before.notes now.notes job)
        at stops.Usage e line h left = absurd h
        at (stops.Refused why) e line h left = absurd (cc)
        at (stops.Unfinished level budget) e line h left = of level budget files line h left
        at stops.ReadFault e line h left = absurd (cc)
        at stops.WriteFault e line h left = absurd (cc)
        at stops.Memory e line h left = absurd (cc)

    pub unfinished : status ≡ statuses.WriteFault → IfSome files (WritesStage first last job)
    unfinished is = at stop (own_line stop status statuses.WriteFault before now told is (λ e. cc)).0 cause leaves
      where
        at : (s : Stop) → status_of s ≡ statuses.WriteFault → IsStopCause s shelf-rose failed sink-rose job files → LeavesText s job files first last → IfSome files (WritesStage first last job)
        at stops.Usage e h left = absurd h
        at (stops.Refused why) e h left = absurd (cc)
        at (stops.Unfinished level budget) e h left = absurd (cc)
        at stops.ReadFault e h left = absurd (cc)
        at stops.WriteFault e h left = left
        at stops.Memory e h left = absurd (cc)

    pub at_most : (last ≡ first) ⊎ IfSome files (WritesStage first last job)
    at_most = at stop leaves
      where
        staged : (level : ℕ) (fs : Option (List File)) → IfSome fs (WritesBeyond level first last job) → IfSome fs (WritesStage first last job)
        staged level None left = tt
        staged level (Some fs) left = record { text = left.text; holds = laws.beyond_is_stage left.text level fs left.holds; front = whole_front left.text first last left.written }

        at : (s : Stop) → LeavesText s job files first last → (last ≡ first) ⊎ IfSome files (WritesStage first last job)
        at stops.Usage left = inl left
        at (stops.Refused why) left = inl left
        at (stops.Unfinished level budget) left = inr (staged level files left)
        at stops.ReadFault left = inl left
        at stops.WriteFault left = inr left
        at stops.Memory left = left

    pub silent : (status ≡ statuses.Usage) ⊎ ((status ≡ statuses.Refused) ⊎ (status ≡ statuses.ReadFault)) → last ≡ first
    silent (inl is) = absurd (never_usage is)
    silent (inr (inl is)) = at stop (own_line stop status statuses.Refused before now told is (λ e. cc)).0 leaves
      where
        at : (s : Stop) → status_of s ≡ statuses.Refused → LeavesText s job files first last → last ≡ first
        at stops.Usage e left = left
        at (stops.Refused why) e left = left
        at (stops.Unfinished level budget) e left = absurd (cc)
        at stops.ReadFault e left = left
        at stops.WriteFault e left = absurd (cc)
        at stops.Memory e left = absurd (cc)
    silent (inr (inr is)) = at stop (own_line stop status statuses.ReadFault before now told is (λ e. cc)).0 leaves
      where
        at : (s : Stop) → status_of s ≡ statuses.ReadFault → LeavesText s job files first last → last ≡ first
        at stops.Usage e left = left
        at (stops.Refused why) e left = left
        at (stops.Unfinished level budget) e left = absurd (cc)
        at stops.ReadFault e left = left
        at stops.WriteFault e left = absurd (cc)
        at stops.Memory e left = absurd (cc)

-- ---- a run that wants memory, whatever the job
module _ (status : Status) (want : status ≡ statuses.OutOfMemory) (job : JobMeaning) where
  pub memory_refuses : (files : Option (List File)) (failed : Type 0) → IfSome files (λ fs. (why : Refusal) → IsRefusal why job fs → ¬ failed → IsUnlessMemory statuses.Refused status)
  memory_refuses None failed = tt
  memory_refuses (Some fs) failed = λ why reason calm. inr want

  pub memory_spends : (files : Option (List File)) (failed sink-rose : Type 0)
      → IfSome files (λ fs. LacksBudget job fs → ¬ failed → ¬ sink-rose → IsUnlessMemory statuses.Unfinished status)
  memory_spends None failed sink-rose = tt
  memory_spends (Some fs) failed sink-rose = λ short calm quiet. inr want

  pub memory_misses : (files : Option (List File)) → IfSome files (λ fs. LacksFile job fs → IsUnlessMemory statuses.ReadFault status)
  memory_misses None = tt
  memory_misses (Some fs) = λ lacks. inr want

  pub memory_completes : (files : Option (List File)) (failed sink-rose : Type 0) → IfSome files (λ fs. CanBeDone job fs → ¬ failed → ¬ sink-rose → IsUnlessMemory statuses.Done status)
  memory_completes None failed sink-rose = tt
  memory_completes (Some fs) failed sink-rose = λ can calm quiet. inr want

  pub memory_rejects : (files : Option (List File)) (failed sink-rose : Type 0) → IfSome files (λ fs. CanBeRejected job fs → ¬ failed → ¬ sink-rose → IsUnlessMemory statuses.NotValid status)
  memory_rejects None failed sink-rose = tt
  memory_rejects (Some fs) failed sink-rose = λ can calm quiet. inr want

-- ---- a job that was done
module _ (status : Status) (job : JobMeaning) (first last : Option (List ℕ)) (laws : KeepsApart job) where
  pub done_refuses : (files : Option (List File)) (failed : Type 0) → IfSome files (EndsSo outcomes.Done first last job)
      → IfSome files (λ fs. (why : Refusal) → IsRefusal why job fs → ¬ failed → IsUnlessMemory statuses.Refused status)
  done_refuses None failed h = tt
  done_refuses (Some fs) failed h = λ why reason calm. absurd (laws.not_refused why fs (laws.output_fits h.writes.text fs h.writes.holds) reason)

  pub done_misses : (files : Option (List File)) → IfSome files (EndsSo outcomes.Done first last job) → IfSome files (λ fs. LacksFile job fs → IsUnlessMemory statuses.ReadFault status)
  done_misses None h = tt
  done_misses (Some fs) h = λ lacks. absurd (laws.not_lacking fs (laws.output_fits h.writes.text fs h.writes.holds) lacks)

  pub done_spends : (files : Option (List File)) (failed sink-rose : Type 0) → IfSome files (EndsSo outcomes.Done first last job)
      → IfSome files (λ fs. LacksBudget job fs → ¬ failed → ¬ sink-rose → IsUnlessMemory statuses.Unfinished status)
  done_spends None failed sink-rose h = tt
  done_spends (Some fs) failed sink-rose h = λ short calm quiet. absurd (laws.output_not_short h.writes.text fs h.writes.holds short)

  pub done_rejects : (files : Option (List File)) (failed sink-rose : Type 0) → IfSome files (EndsSo outcomes.Done first last job)
      → IfSome files (λ fs. CanBeRejected job fs → ¬ failed → ¬ sink-rose → IsUnlessMemory statuses.NotValid status)
  done_rejects None failed sink-rose h = tt
  done_rejects (Some fs) failed sink-rose h = λ can calm quiet. absurd (h.only can)

  pub done_writes : (files : Option (List File)) → IfSome files (EndsSo outcomes.Done first last job) → IfSome files (WritesOutput first last job)
  done_writes None h = tt
  done_writes (Some fs) h = h.writes

-- ---- a job that found a report not valid
module _ (status : Status) (job : JobMeaning) (first last : Option (List ℕ)) (laws : KeepsApart job) where
  pub rejected_refuses : (files : Option (List File)) (failed : Type 0) → IfSome files (EndsSo outcomes.NotValid first last job)
      → IfSome files (λ fs. (why : Refusal) → IsRefusal why job fs → ¬ failed → IsUnlessMemory statuses.Refused status)
  rejected_refuses None failed h = tt
  rejected_refuses (Some fs) failed h = λ why reason calm. absurd (laws.not_refused why fs (laws.rejection_fits h.writes.text fs h.writes.holds) reason)

  pub rejected_misses : (files : Option (List File)) → IfSome files (EndsSo outcomes.NotValid first last job) → IfSome files (λ fs. LacksFile job fs → IsUnlessMemory statuses.ReadFault status)
  rejected_misses None h = tt
  rejected_misses (Some fs) h = λ lacks. absurd (laws.not_lacking fs (laws.rejection_fits h.writes.text fs h.writes.holds) lacks)

  pub rejected_spends : (files : Option (List File)) (failed sink-rose : Type 0) → IfSome files (EndsSo outcomes.NotValid first last job)
      → IfSome files (λ fs. LacksBudget job fs → ¬ failed → ¬ sink-rose → IsUnlessMemory statuses.Unfinished status)
  rejected_spends None failed sink-rose h = tt
  rejected_spends (Some fs) failed sink-rose h = λ short calm quiet. absurd (laws.rejection_not_short h.writes.text fs h.writes.holds short)

  pub rejected_completes : (files : Option (List File)) (failed sink-rose : Type 0) → IfSome files (EndsSo outcomes.NotValid first last job)
      → IfSome files (λ fs. CanBeDone job fs → ¬ failed → ¬ sink-rose → IsUnlessMemory statuses.Done status)
  rejected_completes None failed sink-rose h = tt
  rejected_completes (Some fs) failed sink-rose h = λ can calm quiet. absurd (h.only can)

  pub rejected_writes : (files : Option (List File)) → IfSome files (EndsSo outcomes.NotValid first last job) → IfSome files (WritesRejection first last job)
  rejected_writes None h = tt
  rejected_writes (Some fs) h = h.writes
