-- The check of a report: what is told of it, and why it stops.
use Rattle.std.proofs.Common.{◌≡◌, ◌≤◌, ℕ, List, [], ◌∷◌, length, Option, None, Some, Result, Ok, Err, IfSome, IfErr, inl, inr, refl, sym, subst}
use Rattle.std.specs.Result.{IsErrAnd}
use Rattle.mcs_ports.specs.Causes.{Rose}
use Rattle.mcs_ports.specs.Pieces.{Device, appended}
use Rattle.mcs_text.specs.Writes.{IsWriteFaultDue, Writes, WritesFront}
use Rattle.mcs_text.specs.declared.unwritten.Unwritten.{Unwritten}
use Rattle.mcs_text.specs.declared.unwritten.Unwritten.TheVariants as unwritten
use Rattle.mcs_system.specs.Plain.{System}
use Rattle.mcs_faults.proofs.Unambiguous.{texts-unambiguous}
use Rattle.mcs_words.specs.Commands.{Word}
use Rattle.mcs_check.specs.Validity.{IsValidReport}
use Rattle.mcs_check.specs.Findings.{IsReportFinding, RulesOut, finding_line}
use Rattle.mcs_check.specs.declared.finding.Finding.{Finding}
use Rattle.mcs_check.specs.declared.finding.Finding.TheVariants.{Valid, Fails}
use Rattle.mcs_listing.specs.Endings.{stop_for_unwritten}
use Rattle.mcs_listing.specs.Jobs.{File, told_all, OfOneFile, OfFirstFile, OfTwoFiles}
use Rattle.mcs_proof_text.specs.Reports.{most_report_bytes}
use Rattle.mcs_listing.specs.Texts.{IsTextOf, IsRefusedFor, StopsReading, StopsReport}
use Rattle.mcs_top.specs.Meaning.{JobMeaning, OfReport, IsToldValid, IsToldCheapest, IsToldFailing, FailsATest, IsReportTooLong, IsCheckRefusal, report_job}
use Rattle.mcs_top.specs.Examining.{HasFound, AreExamined, StopsExamining, TellsOf, TellsCheapest}
use Rattle.mcs_top.specs.Promise.{WritesStage, IsStopCause, LeavesText, DoesJob, EndsSo, outcome_of}
use Rattle.mcs_listing.specs.declared.ending.Refusal.{Refusal}
use Rattle.mcs_listing.specs.declared.ending.Refusal.TheVariants as refusals
use Rattle.mcs_listing.specs.declared.ending.Stop.{Stop}
use Rattle.mcs_listing.specs.declared.ending.Stop.TheVariants as stops
use Rattle.mcs_listing.proofs.JobLemmas.{told_also, told_first, told_two, of_two, apart_of_two, lacks_first, lacks_second}
use Rattle.mcs_listing.proofs.DeviceLemmas.{sink_wrote, sink_cut}

-- what comes of a stop
pub stop_of : {U : Type 0} (P : Stop → Type 0) (stop : Stop) (r : Result U Stop) → IsErrAnd r (λ s. s ≡ stop) → P stop → IfErr r P
stop_of P stop (Ok y) is h = absurd is
stop_of P stop (Err s) is h = subst P (sym is) h

-- a text was not written whole
pub writes_err : {T U : Type 0} (text : List ℕ) (before now : Device) (e : Unwritten) (r : Result U Unwritten) → IsErrAnd r (λ d. d ≡ e) → Writes {T = T} text before now (Err e) → Writes text before now r
writes_err text before now e (Ok y) is w = absurd is
writes_err text before now e (Err d) is w = record {
  later = w.later;
  notes = w.notes;
  quiet = tt;
  whole = tt;
  front = w.front;
  due = subst (λ (x : Unwritten). IsWriteFaultDue x before.faults now.faults) (sym is) w.due;
}

-- ---- why a file of it is not had
pub never_first : (files : List File) → OfFirstFile (λ bytes. ⊥) files → ⊥
never_first [] h = h
never_first (None ∷ files) h = h
never_first (Some bytes ∷ files) h = h

first_refused : (why : Refusal) (files : List File) → OfFirstFile (IsRefusedFor why) files → IsCheckRefusal why files
first_refused refusals.TooLong files h = h
first_refused refusals.ReportTooLong files h = absurd (never_first files h)
first_refused refusals.ScriptTooLong files h = absurd (never_first files h)
first_refused (refusals.Text number offset limit) files h = h
first_refused (refusals.Script number offset limit) files h = absurd (never_first files h)
first_refused (refusals.NotPlain name) files h = absurd (never_first files h)

module _ (held : Option (Word → File)) (file report : Word) where
  abbrev told : Option (List File)
  told = told_all held (file ∷ report ∷ [])

  -- the text of the system is not had
  pub text_stops : (rose failed : Type 0) (stop : Stop) → StopsReading IsRefusedFor stop rose failed (told_all held (file ∷ [])) → StopsExamining stop rose failed told
  text_stops rose failed stops.Usage h = h
  text_stops rose failed (stops.Refused why) h = told_also told _ _ (first_refused why) (told_first held file report (IsRefusedFor why) h)
  text_stops rose failed (stops.Unfinished level limit) h = h
  text_stops rose failed stops.ReadFault h = (h.0, lacks_first held file report (λ bytes. (m : System) × IsTextOf m bytes) failed h.1)
  text_stops rose failed stops.WriteFault h = h
  text_stops rose failed stops.Memory h = tt

  module _ (m : System) (read : IfSome (told_all held (file ∷ [])) (OfOneFile (IsTextOf m))) where
    too_long : IfSome (told_all held (report ∷ [])) (OfOneFile (λ bytes. ¬ (length bytes ≤ most_report_bytes))) → IfSome told (OfTwoFiles IsReportTooLong)
    too_long long = told_also told _ _ (λ fs. of_two (λ bytes more. IsTextOf m bytes × ¬ (length more ≤ most_report_bytes)) IsReportTooLong (λ bytes more (spelled, more_long). (m, spelled, more_long)) fs)
        (told_two held file report (IsTextOf m) (λ bytes. ¬ (length bytes ≤ most_report_bytes)) read long)

    -- the report is not had
    pub report_stops : (rose failed more-rose more-failed : Type 0) → (more-rose → rose) → (more-failed → failed) → (stop : Stop) → StopsReport stop more-rose more-failed (told_all held (report ∷ [])) → StopsExamining stop rose failed told
    report_stops rose failed more-rose more-failed up higher stops.Usage h = h
    report_stops rose failed more-rose more-failed up higher (stops.Refused refusals.TooLong) h = absurd h
    report_stops rose failed more-rose more-failed up higher (stops.Refused refusals.ReportTooLong) h = too_long h
    report_stops rose failed more-rose more-failed up higher (stops.Refused refusals.ScriptTooLong) h = absurd h
    report_stops rose failed more-rose more-failed up higher (stops.Refused (refusals.Text number offset limit)) h = absurd h
    report_stops rose failed more-rose more-failed up higher (stops.Refused (refusals.Script number offset limit)) h = absurd h
    report_stops rose failed more-rose more-failed up higher (stops.Refused (refusals.NotPlain name)) h = absurd h
    report_stops rose failed more-rose more-failed up higher (stops.Unfinished level limit) h = h
    report_stops rose failed more-rose more-failed up higher stops.ReadFault h = (up h.0, lacks_second held file report (IsTextOf m) (λ bytes. (n : System) × IsTextOf n bytes) failed more-failed (λ bytes spelled. (m, spelled)) higher read h.1)
    report_stops rose failed more-rose more-failed up higher stops.WriteFault h = h
    report_stops rose failed more-rose more-failed up higher stops.Memory h = tt

    -- both were read
    pub both_examined : (bytes : List ℕ) (found : Finding) → length bytes ≤ most_report_bytes → IfSome (told_all held (report ∷ [])) (OfOneFile (λ there. there ≡ bytes)) → IsReportFinding m bytes found → RulesOut m bytes found → AreExamined m found told
    both_examined bytes found few there is only = told_also told _ _
        (of_two (λ text more. IsTextOf m text × (more ≡ bytes)) (HasFound m found) (λ text more (spelled, same). subst (λ (b : List ℕ). HasFound m found text b) (sym same) (spelled, few, is, only)))
        (told_two held file report (IsTextOf m) (λ there'. there' ≡ bytes) read there)

-- ---- what is told of a report that was examined
-- by the line of what was found
pub line_tells : (m : System) (found : Finding) (report : List ℕ) → IsReportFinding m report found → TellsOf IsToldValid m report (finding_line found) found
line_tells m Valid report is = (is, refl)
line_tells m (Fails line reason) report is = refl

-- by the listing of the cheapest diagnoses
pub cheapest_tells : (m : System) (found : Finding) (text report : List ℕ) → TellsCheapest m text found → IsReportFinding m report found → TellsOf IsToldCheapest m report text found
cheapest_tells m Valid text report tells is = (is, tells)
cheapest_tells m (Fails line reason) text report tells is = tells

module _ (IsTold : List ℕ → System → List ℕ → Type 0) (file report : Word) where
  abbrev means : JobMeaning
  means = report_job IsTold file report

  pub stopped_cause : (rose failed sink-rose : Type 0) (files : Option (List File)) (stop : Stop) → StopsExamining stop rose failed files → IsStopCause stop rose failed sink-rose means files
  stopped_cause rose failed sink-rose files stops.Usage h = h
  stopped_cause rose failed sink-rose files (stops.Refused why) h = h
  stopped_cause rose failed sink-rose files (stops.Unfinished level limit) h = absurd h
  stopped_cause rose failed sink-rose files stops.ReadFault h = h
  stopped_cause rose failed sink-rose files stops.WriteFault h = absurd h
  stopped_cause rose failed sink-rose files stops.Memory h = tt

  pub stopped_left : (rose failed : Type 0) (files : Option (List File)) (now : Option (List ℕ)) (stop : Stop) → StopsExamining stop rose failed files → LeavesText stop means files now now
  stopped_left rose failed files now stops.Usage h = refl
  stopped_left rose failed files now (stops.Refused why) h = refl
  stopped_left rose failed files now (stops.Unfinished level limit) h = absurd h
  stopped_left rose failed files now stops.ReadFault h = refl
  stopped_left rose failed files now stops.WriteFault h = absurd h
  stopped_left rose failed files now stops.Memory h = inl refl

  module _ (m : System) (files : Option (List File)) (text : List ℕ) where
    -- what holds of the system and the report holds of the files
    of_found : (found : Finding) (P : System → List ℕ → Type 0) → ((more : List ℕ) → IsReportFinding m more found → P m more) → (fs : List File) → OfTwoFiles (HasFound m found) fs → OfTwoFiles (OfReport P) fs
    of_found found P holds fs = of_two (HasFound m found) (OfReport P) (λ bytes more (read, few, is, only). (m, read, few, holds more is)) fs

    -- and what does not, does not
    not_of_found : (found : Finding) (P : System → List ℕ → Type 0) → ((more : List ℕ) → RulesOut m more found → ¬ P m more) → (fs : List File) → OfTwoFiles (HasFound m found) fs → OfTwoFiles (OfReport P) fs → ⊥
    not_of_found found P never fs = apart_of_two (HasFound m found) (OfReport P)
        (λ bytes more (read, few, is, only) (n, again, short, holds). never more only (subst (λ (s : System). P s more) (texts-unambiguous bytes n m again.spelled read.spelled) holds)) fs

    told_finding : (found : Finding) → AreExamined m found files → ((more : List ℕ) → IsReportFinding m more found → TellsOf IsTold m more text found) → (before now : Option (List ℕ)) → now ≡ appended before text
        → IfSome files (EndsSo (outcome_of found) before now means)
    told_finding Valid examined tells before now written = told_also files _ _ (λ fs h. record {
      writes = record { text = text; holds = of_found Valid (IsTold text) tells fs h; written = written };
      only = not_of_found Valid FailsATest (λ more only (line, reason, fails). only line reason fails) fs h;
    }) examined
    told_finding (Fails line reason) examined tells before now written = told_also files _ _ (λ fs h. record {
      writes = record { text = text; holds = of_found (Fails line reason) (IsToldFailing text) (λ more is. (line, reason, is, tells more is)) fs h; written = written };
      only = not_of_found (Fails line reason) IsValidReport (λ more only. only) fs h;
    }) examined

    finding_stage : (found : Finding) → AreExamined m found files → ((more : List ℕ) → IsReportFinding m more found → TellsOf IsTold m more text found) → (before now : Option (List ℕ)) → WritesFront text before now → IfSome files (WritesStage before now means)
    finding_stage Valid examined tells before now front = told_also files _ _ (λ fs h. record { text = text; holds = inl (of_found Valid (IsTold text) tells fs h); front = front }) examined
    finding_stage (Fails line reason) examined tells before now front = told_also files _ _ (λ fs h. record {
      text = text;
      holds = inr (of_found (Fails line reason) (IsToldFailing text) (λ more is. (line, reason, is, tells more is)) fs h);
      front = front;
    }) examined

    -- it was not written whole
    cut_cause : {T : Type 0} (rose failed : Type 0) (before now : Device) (why : Unwritten) → Writes {T = T} text before now (Err why) → IsStopCause (stop_for_unwritten why) rose failed (Rose before.faults now.faults) means files
    cut_cause rose failed before now unwritten.Fault w = w.due
    cut_cause rose failed before now unwritten.Memory w = tt

    cut_left : {T : Type 0} (found : Finding) → AreExamined m found files → ((more : List ℕ) → IsReportFinding m more found → TellsOf IsTold m more text found) → (before now : Device) (why : Unwritten) → Writes {T = T} text before now (Err why)
        → LeavesText (stop_for_unwritten why) means files before.written now.written
    cut_left found examined tells before now unwritten.Fault w = finding_stage found examined tells before.written now.written w.front
    cut_left found examined tells before now unwritten.Memory w = inr (finding_stage found examined tells before.written now.written w.front)

  -- ---- what the job does
  module _ (held : Option (Word → File)) (faults faults' failures failures' : ℕ) (later : faults ≤ faults') (before now : Device) (m : System) (found : Finding) (text : List ℕ)
      (examined : AreExamined m found (told_all held (file ∷ report ∷ []))) (tells : (more : List ℕ) → IsReportFinding m more found → TellsOf IsTold m more text found) where
    pub reported_done : {T : Type 0} (x : T) → Writes text before now (Ok x) → DoesJob means held faults faults' failures failures' before now (Ok (outcome_of found))
    reported_done x w = record {
      shelf_later = later;
      sink = sink_wrote before now text x (outcome_of found) w;
      ok = told_finding m (told_all held (file ∷ report ∷ [])) text found examined tells before.written now.written w.whole;
      cause = tt;
      leaves = tt;
    }

    pub reported_cut : {T : Type 0} (why : Unwritten) → Writes {T = T} text before now (Err why) → DoesJob means held faults faults' failures failures' before now (Err (stop_for_unwritten why))
    reported_cut why w = record {
      shelf_later = later;
      sink = sink_cut before now text why (Err (stop_for_unwritten why)) refl w;
      ok = tt;
      cause = cut_cause m (told_all held (file ∷ report ∷ [])) text (Rose faults faults') (Rose failures failures') before now why w;
      leaves = cut_left m (told_all held (file ∷ report ∷ [])) text found examined tells before now why w;
    }
