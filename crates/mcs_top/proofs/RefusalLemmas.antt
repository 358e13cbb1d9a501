-- What of a job excludes what: one that can be done is refused for nothing, lacks no file, and does not stop at a level.
use Rattle.std.proofs.Common.{◌≡◌, ℕ, zero, suc, ◌≤◌, Bool, true, false, cond, List, [], ◌∷◌, ◌++◌, Option, Some, None, inl, inr, refl, subst, sym, ap, ◌∙◌, true≢false, arith}
use Rattle.std.proofs.lemmas.List.{append-nil}
use Rattle.mcs_ports.specs.Pieces.{appended}
use Rattle.mcs_text.specs.Writes.{WritesFront}
use Rattle.mcs_system.specs.Plain.{System}
use Rattle.mcs_faults.proofs.Unambiguous.{texts-unambiguous}
use Rattle.mcs_grammar.proofs.OneFault.{no-fault}
use Rattle.mcs_base.proofs.Placed.{eq_differs}
use Rattle.mcs_report.specs.Listing.{heading, verdict_line}
use Rattle.mcs_report.specs.Solutions.{first, below}
use Rattle.mcs_generator.specs.Generated.{generated_system}
use Rattle.mcs_work.specs.Tasks.{IsTaskText, IsTaskStage, IsTaskUpTo, TakesLevel}
use Rattle.mcs_work.specs.declared.task.Task.{Task}
use Rattle.mcs_work.specs.declared.task.Task.TheVariants.{Equilibria, Grounded, Solve, Cheapest, Make}
use Rattle.mcs_script.specs.Edits.{Edit}
use Rattle.mcs_script.specs.Scripts.{SpellsScript, ScriptHasFault}
use Rattle.mcs_script.proofs.OneScript.{one-script, spelled-script-no-fault}
use Rattle.mcs_words.specs.Commands.{Word, Request, equilibria, grounded, solve, cheapest, check, make, session}
use Rattle.mcs_check.specs.Validity.{IsValidReport}
use Rattle.mcs_listing.specs.Jobs.{File, OfOneFile, OfFirstFile, OfTwoFiles, LacksOneOfTwo}
use Rattle.mcs_listing.specs.Texts.{IsTextOf, IsTextFor, IsNotPlainAt, IsRefusedFor, IsRefusedTask, IsScriptOf, IsRefusedScript}
use Rattle.mcs_top.specs.Meaning.{JobMeaning, OfReport, IsReportTooLong, IsToldValid, IsToldCheapest, IsToldFailing, FailsATest, IsSolution, IsSolutionStage, IsCheckRefusal, OfSession, IsScriptRefused, IsSessionRefusal, IsWithinBudget, OfTask, file_job, report_job, made_job, session_job, meaning}
use Rattle.mcs_listing.specs.Listings.{Suffices, IsShort, IsListedBefore}
use Rattle.mcs_listing.specs.declared.ending.Refusal.{Refusal}
use Rattle.mcs_listing.specs.declared.ending.Refusal.TheVariants as refusals
use Rattle.mcs_listing.proofs.JobLemmas.{apart_of_file, of_file, of_two, apart_of_two, apart_of_first}
use Rattle.mcs_editing.specs.Listed.{listed_systems}
use Rattle.mcs_editing.specs.Texts.{IsSessionStage}
use Rattle.mcs_editing.specs.Sessions.{SufficesForEach, IsShortForOne, IsSessionWithin, IsSessionBefore}
use Rattle.mcs_editing.proofs.BudgetLemmas.{before_is_stage, before_is_short, suffices_or_not}

-- a text that was written whole is a front of itself
pub whole_front : (text : List ℕ) (before now : Option (List ℕ)) → now ≡ appended before text → WritesFront text before now
whole_front text before now is = record { front = text; rest = []; parts = append-nil text; written = is }

not_refused : (bytes : List ℕ) (m : System) (why : Refusal) → IsTextOf m bytes → IsRefusedFor why bytes → ⊥
not_refused bytes m refusals.TooLong text long = long text.fits
not_refused bytes m refusals.ReportTooLong text h = h
not_refused bytes m refusals.ScriptTooLong text h = h
not_refused bytes m (refusals.Script number offset limit) text h = h
not_refused bytes m (refusals.NotPlain name) text h = h
not_refused bytes m (refusals.Text number offset limit) text h = no-fault bytes m number limit offset text.spelled h.1

-- a text for a task is the text of a system
pub text_of_task : (task : Task) (m : System) (bytes : List ℕ) → IsTextFor task m bytes → IsTextOf m bytes
text_of_task Equilibria m bytes text = text
text_of_task Grounded m bytes text = text.text
text_of_task Solve m bytes text = text
text_of_task Cheapest m bytes text = text
text_of_task Make m bytes text = text

same_system : (task : Task) (m n : System) (bytes : List ℕ) → IsTextFor task m bytes → IsTextFor task n bytes → n ≡ m
same_system task m n bytes text other = texts-unambiguous bytes n m (text_of_task task n bytes other).spelled (text_of_task task m bytes text).spelled

-- it is refused for nothing
not_refused_task : (task : Task) (bytes : List ℕ) (m : System) (why : Refusal) → IsTextFor task m bytes → IsRefusedTask task why bytes → ⊥
not_refused_task Equilibria bytes m why text h = not_refused bytes m why text h
not_refused_task Solve bytes m why text h = not_refused bytes m why text h
not_refused_task Cheapest bytes m why text h = not_refused bytes m why text h
not_refused_task Make bytes m why text h = not_refused bytes m why text h
not_refused_task Grounded bytes m refusals.TooLong text h = not_refused bytes m refusals.TooLong text.text h
not_refused_task Grounded bytes m refusals.ReportTooLong text h = h
not_refused_task Grounded bytes m refusals.ScriptTooLong text h = h
not_refused_task Grounded bytes m (refusals.Script number offset limit) text h = h
not_refused_task Grounded bytes m (refusals.Text number offset limit) text h = not_refused bytes m (refusals.Text number offset limit) text.text h
not_refused_task Grounded bytes m (refusals.NotPlain name) text (n, other, unplain) =
    let at : IsNotPlainAt name m = subst (IsNotPlainAt name) (texts-unambiguous bytes n m other.spelled text.text.spelled) unplain in
    true≢false (sym (text.plain at.place at.lowest.context at.lowest.is_its) ∙ at.lowest.not_plain)

of_task_apart : (task : Task) (P : System → Type 0) (why : Refusal) (files : List File) → OfOneFile (OfTask task P) files → OfOneFile (IsRefusedTask task why) files → ⊥
of_task_apart task P why files = apart_of_file (OfTask task P) (IsRefusedTask task why) (λ bytes (m, read, holds). not_refused_task task bytes m why read) files

-- of one text it can't be that the budget suffices and that it does not
two_systems_apart : (task : Task) (P Q : System → Type 0) → ((m : System) → P m → Q m → ⊥) → (files : List File) → OfOneFile (OfTask task P) files → OfOneFile (OfTask task Q) files → ⊥
two_systems_apart task P Q apart files = apart_of_file (OfTask task P) (OfTask task Q) (λ bytes (m, read, holds) (n, again, other). apart m holds (subst Q (same_system task m n bytes read again) other)) files

-- what is printed before a level that is taken is a stage
up_to_stage : (task : Task) (m : System) (level : ℕ) (text : List ℕ) → TakesLevel task m level → IsTaskUpTo task m level text → IsTaskStage task m text
up_to_stage Equilibria m level text taken is = inl is
up_to_stage Grounded m level text taken is = inl is
up_to_stage Solve m zero text taken is = first is
up_to_stage Solve m (suc level) text taken h = below (suc level) h
up_to_stage Cheapest m zero text taken is = inl (is ∙ append-nil (heading m))
up_to_stage Cheapest m (suc level) text taken is = inr (inl ((λ consistent. (let none : suc level ≤ 0 = taken 0 (inl (consistent, refl)) in absurd (omega (arith, none)))), is ∙ ap (λ (b : Bool). heading m ++ cond b [] (verdict_line false)) (eq_differs (suc level) 0 (λ e. omega (arith, e)))))
up_to_stage Make m level text taken is = inl is

-- also of the whole listing, with its proof or not
solution_up_to : (proof : Bool) (m : System) (level : ℕ) (text : List ℕ) → TakesLevel Solve m level → IsTaskUpTo Solve m level text → IsSolutionStage proof m text
solution_up_to false m level text taken is = up_to_stage Solve m level text taken is
solution_up_to true m level text taken is = inl (up_to_stage Solve m level text taken is)

-- a budget can't both suffice and not
module _ (task : Task) (budget : ℕ) (m : System) where
  short_apart : Suffices task budget m → IsShort task budget m → ⊥
  short_apart suffices short = suffices short.level short.taken short.beyond

  before_apart : (level : ℕ) (text : List ℕ) → Suffices task budget m → IsListedBefore task budget level text m → ⊥
  before_apart level text suffices before = suffices level before.0.taken before.0.beyond

-- ---- a report on the system of a file
-- it is refused for nothing
report_not_refused : (P : System → List ℕ → Type 0) (why : Refusal) (files : List File) → OfTwoFiles (OfReport P) files → IsCheckRefusal why files → ⊥
report_not_refused P refusals.TooLong files = apart_of_first (OfReport P) (IsRefusedFor refusals.TooLong) (λ bytes more (m, read, few, holds). not_refused bytes m refusals.TooLong read) files
report_not_refused P refusals.ReportTooLong files = apart_of_two (OfReport P) IsReportTooLong (λ bytes more (m, read, few, holds) (n, again, long). long few) files
report_not_refused P refusals.ScriptTooLong files = λ h k. k
report_not_refused P (refusals.Script number offset limit) files = λ h k. k
report_not_refused P (refusals.NotPlain name) files = λ h k. k
report_not_refused P (refusals.Text number offset limit) files =
    apart_of_first (OfReport P) (IsRefusedFor (refusals.Text number offset limit)) (λ bytes more (m, read, few, holds). not_refused bytes m (refusals.Text number offset limit) read) files

-- both files are there
both_there : (P : List ℕ → List ℕ → Type 0) (Q : List ℕ → Type 0) (files : List File) → OfTwoFiles P files → LacksOneOfTwo Q files → ⊥
both_there P Q [] h k = h
both_there P Q (None ∷ files) h k = h
both_there P Q (Some bytes ∷ []) h k = h
both_there P Q (Some bytes ∷ (None ∷ files)) h k = h
both_there P Q (Some bytes ∷ (Some more ∷ [])) h k = k
both_there P Q (Some bytes ∷ (Some more ∷ (file ∷ files))) h k = h

-- the first file is refused, so that the second one is not asked for
first_lacks : (P Q : List ℕ → Type 0) → ((bytes : List ℕ) → P bytes → Q bytes → ⊥) → (files : List File) → OfFirstFile P files → LacksOneOfTwo Q files → ⊥
first_lacks P Q f [] h k = h
first_lacks P Q f (None ∷ files) h k = h
first_lacks P Q f (Some bytes ∷ []) h k = k
first_lacks P Q f (Some bytes ∷ (None ∷ [])) h k = f bytes h k
first_lacks P Q f (Some bytes ∷ (None ∷ (file ∷ files))) h k = k
first_lacks P Q f (Some bytes ∷ (Some more ∷ files)) h k = k

refused_not_missing : (why : Refusal) (files : List File) → OfFirstFile (IsRefusedFor why) files → LacksOneOfTwo (λ bytes. (m : System) × IsTextOf m bytes) files → ⊥
refused_not_missing why files = first_lacks (IsRefusedFor why) (λ bytes. (m : System) × IsTextOf m bytes) (λ bytes refused (m, read). not_refused bytes m why read refused) files

check_refusal_not_missing : (why : Refusal) (files : List File) → IsCheckRefusal why files → LacksOneOfTwo (λ bytes. (m : System) × IsTextOf m bytes) files → ⊥
check_refusal_not_missing refusals.TooLong files = refused_not_missing refusals.TooLong files
check_refusal_not_missing refusals.ReportTooLong files = both_there IsReportTooLong (λ bytes. (m : System) × IsTextOf m bytes) files
check_refusal_not_missing refusals.ScriptTooLong files = λ h k. h
check_refusal_not_missing (refusals.Script number offset limit) files = λ h k. h
check_refusal_not_missing (refusals.NotPlain name) files = λ h k. h
check_refusal_not_missing (refusals.Text number offset limit) files = refused_not_missing (refusals.Text number offset limit) files

-- ---- a script of edits of the system of a file
-- one that spells edits is refused for nothing
script_not_refused : (m n : System) (edits : List Edit) (why : Refusal) (script : List ℕ) → n ≡ m → IsScriptOf m edits script → IsRefusedScript n why script → ⊥
script_not_refused m n edits refusals.TooLong script same is h = h
script_not_refused m n edits refusals.ReportTooLong script same is h = h
script_not_refused m n edits refusals.ScriptTooLong script same is long = long is.fits
script_not_refused m n edits (refusals.Text number offset limit) script same is h = h
script_not_refused m n edits (refusals.Script number offset limit) script same is h = spelled-script-no-fault m script number limit offset edits is.spelled (subst (λ (s : System). ScriptHasFault s script number limit offset) same h.1)
script_not_refused m n edits (refusals.NotPlain name) script same is h = h

both_taken : (P : List System → Type 0) (why : Refusal) (files : List File) → OfTwoFiles (OfSession P) files → OfTwoFiles (IsScriptRefused why) files → ⊥
both_taken P why = apart_of_two (OfSession P) (IsScriptRefused why)
    (λ bytes script (m, read, edits, is, holds) (n, again, refused). script_not_refused m n edits why script (texts-unambiguous bytes n m again.spelled read.spelled) is refused)

first_taken : (P : List System → Type 0) (why : Refusal) (files : List File) → OfTwoFiles (OfSession P) files → OfFirstFile (IsRefusedFor why) files → ⊥
first_taken P why = apart_of_first (OfSession P) (IsRefusedFor why) (λ bytes script (m, read, edits, is, holds). not_refused bytes m why read)

session_not_refused : (P : List System → Type 0) (why : Refusal) (files : List File) → OfTwoFiles (OfSession P) files → IsSessionRefusal why files → ⊥
session_not_refused P refusals.TooLong files = first_taken P refusals.TooLong files
session_not_refused P refusals.ReportTooLong files = λ h k. k
session_not_refused P refusals.ScriptTooLong files = both_taken P refusals.ScriptTooLong files
session_not_refused P (refusals.Text number offset limit) files = first_taken P (refusals.Text number offset limit) files
session_not_refused P (refusals.Script number offset limit) files = both_taken P (refusals.Script number offset limit) files
session_not_refused P (refusals.NotPlain name) files = λ h k. k

session_refusal_not_missing : (why : Refusal) (files : List File) → IsSessionRefusal why files → LacksOneOfTwo (λ bytes. (m : System) × IsTextOf m bytes) files → ⊥
session_refusal_not_missing refusals.TooLong files = refused_not_missing refusals.TooLong files
session_refusal_not_missing refusals.ReportTooLong files = λ h k. h
session_refusal_not_missing refusals.ScriptTooLong files = both_there (IsScriptRefused refusals.ScriptTooLong) (λ bytes. (m : System) × IsTextOf m bytes) files
session_refusal_not_missing (refusals.Text number offset limit) files = refused_not_missing (refusals.Text number offset limit) files
session_refusal_not_missing (refusals.Script number offset limit) files = both_there (IsScriptRefused (refusals.Script number offset limit)) (λ bytes. (m : System) × IsTextOf m bytes) files
session_refusal_not_missing (refusals.NotPlain name) files = λ h k. h

missing : (P : List ℕ → Type 0) (files : List File) → files ≡ None ∷ [] → OfOneFile P files → ⊥
missing P files is h = subst (OfOneFile P) is h

-- ---- what a job keeps apart
-- the files of which it may print something are there and refused for nothing, and so on
pub record KeepsApart (job : JobMeaning) : Type 1 where
  -- its files are there, and of the kind that it reads
  pub fits : List File → Type 0
  pub output_fits : (text : List ℕ) (files : List File) → job.output text files → fits files
  pub rejection_fits : (text : List ℕ) (files : List File) → job.rejection text files → fits files
  pub stage_fits : (text : List ℕ) (files : List File) → job.stage text files → fits files
  pub beyond_fits : (text : List ℕ) (level : ℕ) (files : List File) → job.beyond text level files → fits files
  pub short_fits : (files : List File) → job.short files → fits files
  pub possible_fits : (files : List File) → job.possible files → fits files
  pub invalid_fits : (files : List File) → job.invalid files → fits files
  -- then it is refused for nothing, and lacks none; and one that is refused lacks none
  pub not_refused : (why : Refusal) (files : List File) → fits files → job.refusal why files → ⊥
  pub not_lacking : (files : List File) → fits files → job.lacking files → ⊥
  pub refusal_not_lacking : (why : Refusal) (files : List File) → job.refusal why files → job.lacking files → ⊥
  -- what stops at a level is neither done nor rejected
  pub output_not_short : (text : List ℕ) (files : List File) → job.output text files → job.short files → ⊥
  pub rejection_not_short : (text : List ℕ) (files : List File) → job.rejection text files → job.short files → ⊥
  pub possible_not_beyond : (text : List ℕ) (level : ℕ) (files : List File) → job.possible files → job.beyond text level files → ⊥
  pub invalid_not_beyond : (text : List ℕ) (level : ℕ) (files : List File) → job.invalid files → job.beyond text level files → ⊥
  -- what is printed before a level is a stage
  pub beyond_is_stage : (text : List ℕ) (level : ℕ) (files : List File) → job.beyond text level files → job.stage text files

-- ---- a job for the system of one file
abbrev AnySystem : System → Type 0
AnySystem m = Unit {0}

any_system : (task : Task) (P : System → Type 0) (files : List File) → OfOneFile (OfTask task P) files → OfOneFile (OfTask task AnySystem) files
any_system task P files = of_file (OfTask task P) (OfTask task AnySystem) (λ bytes (m, read, holds). (m, read, tt)) files

file_apart : (IsText IsPart : System → List ℕ → Type 0) (task : Task) → ((m : System) (level : ℕ) (text : List ℕ) → TakesLevel task m level → IsTaskUpTo task m level text → IsPart m text) → (file : Word) (budget workers : ℕ)
    → KeepsApart (file_job IsText IsPart task file budget workers)
file_apart IsText IsPart task up_to file budget workers = record {
  fits = OfOneFile (OfTask task AnySystem);
  output_fits = λ text files h. any_system task (IsWithinBudget IsText task budget text) files h;
  rejection_fits = λ text files h. absurd h;
  stage_fits = λ text files h. any_system task (λ m. IsPart m text) files h;
  beyond_fits = λ text level files h. any_system task (IsListedBefore task budget level text) files h;
  short_fits = λ files h. any_system task (IsShort task budget) files h;
  possible_fits = λ files h. any_system task (Suffices task budget) files h;
  invalid_fits = λ files h. absurd h;
  not_refused = λ why files h k. of_task_apart task AnySystem why files h k;
  not_lacking = λ files h k. missing (OfTask task AnySystem) files k h;
  refusal_not_lacking = λ why files h k. missing (IsRefusedTask task why) files k h;
  output_not_short = λ text files h k. two_systems_apart task (IsWithinBudget IsText task budget text) (IsShort task budget) (λ m printed short. short_apart task budget m printed.0 short) files h k;
  rejection_not_short = λ text files h k. h;
  possible_not_beyond = λ text level files h k. two_systems_apart task (Suffices task budget) (IsListedBefore task budget level text) (λ m. before_apart task budget m level text) files h k;
  invalid_not_beyond = λ text level files h k. h;
  beyond_is_stage = λ text level files h. of_file (OfTask task (IsListedBefore task budget level text)) (OfTask task (λ m. IsPart m text)) (λ bytes (m, read, before). (m, read, up_to m level text before.0.taken before.1)) files h;
}

-- ---- a job that checks a report
abbrev AnyReport : System → List ℕ → Type 0
AnyReport m report = Unit {0}

any_report : (P : System → List ℕ → Type 0) (files : List File) → OfTwoFiles (OfReport P) files → OfTwoFiles (OfReport AnyReport) files
any_report P files = of_two (OfReport P) (OfReport AnyReport) (λ bytes more (m, read, few, holds). (m, read, few, tt)) files

report_apart : (IsTold : List ℕ → System → List ℕ → Type 0) (file report : Word) → KeepsApart (report_job IsTold file report)
report_apart IsTold file report = record {
  fits = OfTwoFiles (OfReport AnyReport);
  output_fits = λ text files h. any_report (IsTold text) files h;
  rejection_fits = λ text files h. any_report (IsToldFailing text) files h;
  stage_fits = λ text files h. elim h [ inl told ↦ any_report (IsTold text) files told | inr failing ↦ any_report (IsToldFailing text) files failing ];
  beyond_fits = λ text level files h. absurd h;
  short_fits = λ files h. absurd h;
  possible_fits = λ files h. any_report IsValidReport files h;
  invalid_fits = λ files h. any_report FailsATest files h;
  not_refused = λ why files h k. report_not_refused AnyReport why files h k;
  not_lacking = λ files h k. both_there (OfReport AnyReport) (λ bytes. (m : System) × IsTextOf m bytes) files h k;
  refusal_not_lacking = λ why files h k. check_refusal_not_missing why files h k;
  output_not_short = λ text files h k. k;
  rejection_not_short = λ text files h k. k;
  possible_not_beyond = λ text level files h k. k;
  invalid_not_beyond = λ text level files h k. k;
  beyond_is_stage = λ text level files h. absurd h;
}

-- ---- a session, by a script of edits of the system of a file
abbrev AnyListed : List System → Type 0
AnyListed systems = Unit {0}

any_session : (P : List System → Type 0) (files : List File) → OfTwoFiles (OfSession P) files → OfTwoFiles (OfSession AnyListed) files
any_session P files = of_two (OfSession P) (OfSession AnyListed) (λ bytes script (m, read, edits, is, holds). (m, read, edits, is, tt)) files

-- two files have one list of systems
same_listed : (bytes script : List ℕ) (m n : System) (es ds : List Edit) → IsTextOf m bytes → IsTextOf n bytes → IsScriptOf m es script → IsScriptOf n ds script → listed_systems n ds ≡ listed_systems m es
same_listed bytes script m n es ds read again is other =
    let same : n ≡ m = texts-unambiguous bytes n m again.spelled read.spelled in
    let edits : ds ≡ es = one-script m script ds es (subst (λ (s : System). SpellsScript s script ds) same other.spelled) is.spelled in
    ap (λ (s : System). listed_systems s ds) same ∙ ap (listed_systems m) edits

sessions_apart : (P Q : List System → Type 0) → ((systems : List System) → P systems → Q systems → ⊥) → (files : List File) → OfTwoFiles (OfSession P) files → OfTwoFiles (OfSession Q) files → ⊥
sessions_apart P Q apart files = apart_of_two (OfSession P) (OfSession Q)
    (λ bytes script (m, read, es, is, holds) (n, again, ds, other, holds'). apart (listed_systems m es) holds (subst Q (same_listed bytes script m n es ds read again is other) holds')) files

session_apart : (file script : Word) (budget : ℕ) → KeepsApart (session_job file script budget)
session_apart file script budget = record {
  fits = OfTwoFiles (OfSession AnyListed);
  output_fits = λ text files h. any_session (λ systems. IsSessionWithin budget systems text) files h;
  rejection_fits = λ text files h. absurd h;
  stage_fits = λ text files h. any_session (λ systems. IsSessionStage systems text) files h;
  beyond_fits = λ text level files h. any_session (λ systems. IsSessionBefore budget level systems text) files h;
  short_fits = λ files h. any_session (IsShortForOne budget) files h;
  possible_fits = λ files h. any_session (SufficesForEach budget) files h;
  invalid_fits = λ files h. absurd h;
  not_refused = λ why files h k. session_not_refused AnyListed why files h k;
  not_lacking = λ files h k. both_there (OfSession AnyListed) (λ bytes. (m : System) × IsTextOf m bytes) files h k;
  refusal_not_lacking = λ why files h k. session_refusal_not_missing why files h k;
  output_not_short = λ text files h k. sessions_apart (λ systems. IsSessionWithin budget systems text) (IsShortForOne budget) (λ systems printed short. suffices_or_not budget systems printed.0 short) files h k;
  rejection_not_short = λ text files h k. h;
  possible_not_beyond = λ text level files h k. sessions_apart (SufficesForEach budget) (λ systems. IsSessionBefore budget level systems text)
      (λ systems enough before. suffices_or_not budget systems enough (before_is_short budget level systems text before)) files h k;
  invalid_not_beyond = λ text level files h k. h;
  beyond_is_stage = λ text level files h. of_two (OfSession (λ systems. IsSessionBefore budget level systems text)) (OfSession (λ systems. IsSessionStage systems text))
      (λ bytes script (m, read, edits, is, before). (m, read, edits, is, before_is_stage budget level (listed_systems m edits) text before)) files h;
}

-- ---- a generated system, which is of no file
made_apart : (number budget workers : ℕ) → KeepsApart (made_job number budget workers)
made_apart number budget workers = record {
  fits = λ files. Unit {0};
  output_fits = λ text files h. tt;
  rejection_fits = λ text files h. tt;
  stage_fits = λ text files h. tt;
  beyond_fits = λ text level files h. tt;
  short_fits = λ files h. tt;
  possible_fits = λ files h. tt;
  invalid_fits = λ files h. tt;
  not_refused = λ why files h k. k;
  not_lacking = λ files h k. k;
  refusal_not_lacking = λ why files h k. k;
  output_not_short = λ text files h k. short_apart Make budget (generated_system number) h.1.0 k;
  rejection_not_short = λ text files h k. h;
  possible_not_beyond = λ text level files h k. before_apart Make budget (generated_system number) level k.0 h k.1;
  invalid_not_beyond = λ text level files h k. h;
  beyond_is_stage = λ text level files h. (h.0, up_to_stage Make (generated_system number) level h.0 h.1.0.taken h.1.1, h.2);
}

-- ---- each job; one to come adds its case here
pub apart : (job : Request) → KeepsApart (meaning job)
apart (equilibria file budget workers) = file_apart (IsTaskText Equilibria) (IsTaskStage Equilibria) Equilibria (up_to_stage Equilibria) file budget workers
apart (grounded file budget workers) = file_apart (IsTaskText Grounded) (IsTaskStage Grounded) Grounded (up_to_stage Grounded) file budget workers
apart (solve file budget workers proof) = file_apart (IsSolution proof) (IsSolutionStage proof) Solve (solution_up_to proof) file budget workers
apart (cheapest file None budget workers) = file_apart (IsTaskText Cheapest) (IsTaskStage Cheapest) Cheapest (up_to_stage Cheapest) file budget workers
apart (cheapest file (Some report) budget workers) = report_apart IsToldCheapest file report
apart (check file report) = report_apart IsToldValid file report
apart (make number budget workers) = made_apart number budget workers
apart (session file script budget) = session_apart file script budget
