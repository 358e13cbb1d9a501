-- A session by a script of edits: why the two files are not had, and what the job does.
use Rattle.std.proofs.Common.{◌≡◌, ◌≤◌, ℕ, List, [], ◌∷◌, Option, Some, None, Result, Ok, Err, IfSome, IfErr, OnOk, inl, inr, refl, sym, subst}
use Rattle.mcs_ports.specs.Causes.{Rose}
use Rattle.mcs_ports.specs.Pieces.{Device}
use Rattle.mcs_system.specs.Plain.{System}
use Rattle.mcs_script.specs.Edits.{Edit}
use Rattle.mcs_words.specs.Commands.{Word}
use Rattle.mcs_listing.specs.Jobs.{File, told_all, OfOneFile, OfFirstFile, OfTwoFiles}
use Rattle.mcs_listing.specs.Texts.{IsTextOf, IsScriptIn, IsScriptOf, IsRefusedFor, IsRefusedScript, StopsReading}
use Rattle.mcs_listing.specs.Listings.{Prints, PrintsFront}
use Rattle.mcs_listing.specs.declared.ending.Refusal.{Refusal}
use Rattle.mcs_listing.specs.declared.ending.Refusal.TheVariants as refusals
use Rattle.mcs_listing.specs.declared.ending.Stop.{Stop}
use Rattle.mcs_listing.specs.declared.ending.Stop.TheVariants as stops
use Rattle.mcs_listing.proofs.JobLemmas.{told_also, told_first, told_two, of_two, lacks_first, lacks_second}
use Rattle.mcs_editing.specs.Listed.{listed_systems}
use Rattle.mcs_editing.specs.Texts.{IsSessionStage}
use Rattle.mcs_editing.specs.Sessions.{IsSessionWithin, IsSessionBefore, StopsSession, ListsSystems}
use Rattle.mcs_top.specs.Meaning.{JobMeaning, OfSession, IsScriptRefused, IsSessionRefusal, session_job}
use Rattle.mcs_top.specs.Scripts.{AreSpelled, AreRead, StopsScript}
use Rattle.mcs_top.specs.Promise.{WritesOutput, WritesStage, IsStopCause, LeavesText, DoesJob, as_done}
use Rattle.mcs_top.proofs.CheckingLemmas.{never_first}
use Rattle.mcs_top.proofs.DoingLemmas.{does_done}

-- ---- why one of the files is not had
first_refused : (why : Refusal) (files : List File) → OfFirstFile (IsRefusedFor why) files → IsSessionRefusal why files
first_refused refusals.TooLong files h = h
first_refused refusals.ReportTooLong files h = absurd (never_first files h)
first_refused refusals.ScriptTooLong files h = absurd (never_first files h)
first_refused (refusals.Text number offset limit) files h = h
first_refused (refusals.Script number offset limit) files h = absurd (never_first files h)
first_refused (refusals.NotPlain name) files h = absurd (never_first files h)

never_two : (P : List ℕ → Type 0) (files : List File) → OfTwoFiles (λ bytes more. P bytes × ⊥) files → ⊥
never_two P [] h = h
never_two P (None ∷ files) h = h
never_two P (Some bytes ∷ []) h = h
never_two P (Some bytes ∷ (None ∷ files)) h = h
never_two P (Some bytes ∷ (Some more ∷ [])) h = h.1
never_two P (Some bytes ∷ (Some more ∷ (file ∷ files))) h = h

module _ (m : System) where
  -- the bytes are the text of the system, and the script is refused
  abbrev RefusedAfter : Refusal → List ℕ → List ℕ → Type 0
  RefusedAfter why bytes script = IsTextOf m bytes × IsRefusedScript m why script

  refused_after : (why : Refusal) (files : List File) → OfTwoFiles (RefusedAfter why) files → OfTwoFiles (IsScriptRefused why) files
  refused_after why = of_two (RefusedAfter why) (IsScriptRefused why) (λ bytes script (read, refused). (m, read, refused))

  script_refused : (why : Refusal) (files : List File) → OfTwoFiles (RefusedAfter why) files → IsSessionRefusal why files
  script_refused refusals.TooLong files h = absurd (never_two (IsTextOf m) files h)
  script_refused refusals.ReportTooLong files h = absurd (never_two (IsTextOf m) files h)
  script_refused refusals.ScriptTooLong files h = refused_after refusals.ScriptTooLong files h
  script_refused (refusals.Text number offset limit) files h = absurd (never_two (IsTextOf m) files h)
  script_refused (refusals.Script number offset limit) files h = refused_after (refusals.Script number offset limit) files h
  script_refused (refusals.NotPlain name) files h = absurd (never_two (IsTextOf m) files h)

module _ (held : Option (Word → File)) (file script : Word) where
  abbrev told : Option (List File)
  told = told_all held (file ∷ script ∷ [])

  -- the text of the system is not had
  pub text_stops : (rose failed : Type 0) (stop : Stop) → StopsReading IsRefusedFor stop rose failed (told_all held (file ∷ [])) → StopsScript stop rose failed told
  text_stops rose failed stops.Usage h = h
  text_stops rose failed (stops.Refused why) h = told_also told _ _ (first_refused why) (told_first held file script (IsRefusedFor why) h)
  text_stops rose failed (stops.Unfinished level limit) h = h
  text_stops rose failed stops.ReadFault h = (h.0, lacks_first held file script (λ bytes. (m : System) × IsTextOf m bytes) failed h.1)
  text_stops rose failed stops.WriteFault h = h
  text_stops rose failed stops.Memory h = tt

  module _ (m : System) (read : IfSome (told_all held (file ∷ [])) (OfOneFile (IsTextOf m))) where
    -- the edits are not had
    pub script_stops : (rose failed more-rose more-failed : Type 0) → (more-rose → rose) → (more-failed → failed) → (stop : Stop) → StopsReading (IsRefusedScript m) stop more-rose more-failed (told_all held (script ∷ [])) → StopsScript stop rose failed told
    script_stops rose failed more-rose more-failed up higher stops.Usage h = h
    script_stops rose failed more-rose more-failed up higher (stops.Refused why) h = told_also told _ _ (script_refused m why) (told_two held file script (IsTextOf m) (IsRefusedScript m why) read h)
    script_stops rose failed more-rose more-failed up higher (stops.Unfinished level limit) h = h
    script_stops rose failed more-rose more-failed up higher stops.ReadFault h = (up h.0, lacks_second held file script (IsTextOf m) (λ bytes. (n : System) × IsTextOf n bytes) failed more-failed (λ bytes spelled. (m, spelled)) higher read h.1)
    script_stops rose failed more-rose more-failed up higher stops.WriteFault h = h
    script_stops rose failed more-rose more-failed up higher stops.Memory h = tt

    -- both were read
    pub both_read : (edits : List Edit) → IsScriptIn m (told_all held (script ∷ [])) edits → AreRead m edits told
    both_read edits there = told_also told _ _
        (of_two (λ bytes more. IsTextOf m bytes × (more ≡ there.bytes)) (AreSpelled m edits) (λ bytes more (spelled, same). (spelled, subst (IsScriptOf m edits) (sym same) there.script)))
        (told_two held file script (IsTextOf m) (λ more. more ≡ there.bytes) read there.told)

-- ---- what the job does
module _ (file script : Word) (budget : ℕ) where
  abbrev means : JobMeaning
  means = session_job file script budget

  pub unread_cause : (rose failed sink-rose : Type 0) (files : Option (List File)) (stop : Stop) → StopsScript stop rose failed files → IsStopCause stop rose failed sink-rose means files
  unread_cause rose failed sink-rose files stops.Usage h = h
  unread_cause rose failed sink-rose files (stops.Refused why) h = h
  unread_cause rose failed sink-rose files (stops.Unfinished level limit) h = absurd h
  unread_cause rose failed sink-rose files stops.ReadFault h = h
  unread_cause rose failed sink-rose files stops.WriteFault h = absurd h
  unread_cause rose failed sink-rose files stops.Memory h = tt

  pub unread_left : (rose failed : Type 0) (files : Option (List File)) (now : Option (List ℕ)) (stop : Stop) → StopsScript stop rose failed files → LeavesText stop means files now now
  unread_left rose failed files now stops.Usage h = refl
  unread_left rose failed files now (stops.Refused why) h = refl
  unread_left rose failed files now (stops.Unfinished level limit) h = absurd h
  unread_left rose failed files now stops.ReadFault h = refl
  unread_left rose failed files now stops.WriteFault h = absurd h
  unread_left rose failed files now stops.Memory h = inl refl

  module _ (m : System) (edits : List Edit) (files : Option (List File)) (read : AreRead m edits files) where
    abbrev systems : List System
    systems = listed_systems m edits

    -- what holds of the systems that are listed holds of the files
    of_listed : (P : List System → Type 0) → P systems → IfSome files (OfTwoFiles (OfSession P))
    of_listed P holds = told_also files _ _ (of_two (AreSpelled m edits) (OfSession P) (λ bytes more (spelled, is). (m, spelled, edits, is, holds))) read

    stage_written : (before now : Option (List ℕ)) → PrintsFront (IsSessionStage systems) before now → IfSome files (WritesStage before now means)
    stage_written before now p = told_also files _ _ (λ fs h. record { text = p.text; holds = h; front = p.front }) (of_listed (λ ms. IsSessionStage ms p.text) p.holds)

    session_written : (before now : Option (List ℕ)) (r : Result (Unit {0}) Stop) → OnOk r (Prints (IsSessionWithin budget systems) before now) → OnOk r (IfSome files (WritesOutput before now means))
    session_written before now (Err stop) p = tt
    session_written before now (Ok x) p = told_also files _ _ (λ fs h. record { text = p.text; holds = h; written = p.written }) (of_listed (λ ms. IsSessionWithin budget ms p.text) p.holds)

    listing_cause : (rose failed sink-rose : Type 0) (before now : Option (List ℕ)) (stop : Stop) → StopsSession stop budget systems sink-rose before now → IsStopCause stop rose failed sink-rose means files
    listing_cause rose failed sink-rose before now stops.Usage h = h
    listing_cause rose failed sink-rose before now (stops.Refused why) h = absurd h
    listing_cause rose failed sink-rose before now (stops.Unfinished level limit) h = h.0
    listing_cause rose failed sink-rose before now stops.ReadFault h = absurd h
    listing_cause rose failed sink-rose before now stops.WriteFault h = h.0
    listing_cause rose failed sink-rose before now stops.Memory h = tt

    listing_left : (sink-rose : Type 0) (before now : Option (List ℕ)) (stop : Stop) → StopsSession stop budget systems sink-rose before now → LeavesText stop means files before now
    listing_left sink-rose before now stops.Usage h = absurd h
    listing_left sink-rose before now (stops.Refused why) h = absurd h
    listing_left sink-rose before now (stops.Unfinished level limit) h =
        told_also files _ _ (λ fs k. record { text = h.1.text; holds = k; written = h.1.written }) (of_listed (λ ms. IsSessionBefore budget level ms h.1.text) h.1.holds)
    listing_left sink-rose before now stops.ReadFault h = absurd h
    listing_left sink-rose before now stops.WriteFault h = stage_written before now h.1
    listing_left sink-rose before now stops.Memory h = inr (stage_written before now h)

    listing_causes : (rose failed sink-rose : Type 0) (before now : Option (List ℕ)) (r : Result (Unit {0}) Stop) → IfErr r (λ stop. StopsSession stop budget systems sink-rose before now) → IfErr r (λ stop. IsStopCause stop rose failed sink-rose means files)
    listing_causes rose failed sink-rose before now (Ok x) h = tt
    listing_causes rose failed sink-rose before now (Err stop) h = listing_cause rose failed sink-rose before now stop h

    listing_leaves : (sink-rose : Type 0) (before now : Option (List ℕ)) (r : Result (Unit {0}) Stop) → IfErr r (λ stop. StopsSession stop budget systems sink-rose before now) → IfErr r (λ stop. LeavesText stop means files before now)
    listing_leaves sink-rose before now (Ok x) h = tt
    listing_leaves sink-rose before now (Err stop) h = listing_left sink-rose before now stop h

  -- the systems were listed, or the work stopped
  pub session_done : (m : System) (edits : List Edit) (held : Option (Word → File)) (faults faults' failures failures' : ℕ) → faults ≤ faults' → AreRead m edits (told_all held (file ∷ script ∷ [])) → (before now : Device) (r : Result (Unit {0}) Stop)
      → ListsSystems budget (listed_systems m edits) before now r → DoesJob means held faults faults' failures failures' before now (as_done r)
  session_done m edits held faults faults' failures failures' up read before now r h =
      does_done means held faults faults' failures failures' before now (λ fs never. never) up r (record { later = h.later; unfailed = h.unfailed; notes = h.notes })
      (session_written m edits (told_all held (file ∷ script ∷ [])) read before.written now.written r h.done)
      (listing_causes m edits (told_all held (file ∷ script ∷ [])) read _ _ _ before.written now.written r h.stop)
      (listing_leaves m edits (told_all held (file ∷ script ∷ [])) read _ before.written now.written r h.stop)
