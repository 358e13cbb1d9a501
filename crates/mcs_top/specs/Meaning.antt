-- What each job means.
use Rattle.std.specs.Prelude.{◌≡◌, ◌⊎◌, ℕ, ◌≤◌, Bool, true, false, List, [], ◌∷◌, length, Option, None, Some, IfSome}
use Rattle.mcs_system.specs.Plain.{System}
use Rattle.mcs_generator.specs.Generated.{generated_system}
use Rattle.mcs_work.specs.Tasks.{IsTaskText, IsTaskStage}
use Rattle.mcs_work.specs.declared.task.Task.{Task}
use Rattle.mcs_work.specs.declared.task.Task.TheVariants.{Equilibria, Grounded, Solve, Cheapest, Make}
use Rattle.mcs_crew.specs.Trails.{IsNoTrail, TrailData}
use Rattle.mcs_words.specs.Commands.{Word, Request, equilibria, grounded, solve, cheapest, check, make, session, IsJobOf}
use Rattle.mcs_check.specs.Validity.{IsProvedListing, IsValidReport, IsFailure}
use Rattle.mcs_check.specs.Findings.{finding_line}
use Rattle.mcs_check.specs.declared.finding.Reason.{Reason}
use Rattle.mcs_check.specs.declared.finding.Finding.TheVariants.{Valid, Fails}
use Rattle.mcs_proof_text.specs.Reports.{most_report_bytes}
use Rattle.mcs_script.specs.Edits.{Edit}
use Rattle.mcs_listing.specs.Jobs.{File, told_all, OfOneFile, OfFirstFile, OfTwoFiles, LacksOneOfTwo}
use Rattle.mcs_listing.specs.Texts.{IsTextOf, IsTextFor, IsRefusedFor, IsRefusedTask, IsScriptOf, IsRefusedScript}
use Rattle.mcs_listing.specs.Listings.{Suffices, IsShort, IsListingText, IsListedBefore, AfterNumber}
use Rattle.mcs_listing.specs.declared.ending.Refusal.{Refusal}
use Rattle.mcs_listing.specs.declared.ending.Refusal.TheVariants as refusals
use Rattle.mcs_editing.specs.Listed.{listed_systems}
use Rattle.mcs_editing.specs.Texts.{IsSessionStage}
use Rattle.mcs_editing.specs.Sessions.{SufficesForEach, IsShortForOne, IsSessionWithin, IsSessionBefore}
use Rattle.mcs_top.specs.TaskTrails.{UsesFew, ShowsTask, ShowsBeyond}

-- Of the words that ask for it: the files that it reads, what it may use. Of what a shelf tells of these files: what it prints,
-- why it is not done, and what its last round leaves to be seen.
pub record JobMeaning : Type 1 where
  -- the names of the files that it reads, in order
  pub files : List Word
  -- the most questions of a level that it may ask
  pub budget : ℕ
  -- how many workers it is given
  pub workers : ℕ
  -- what it prints where it is done
  pub output : List ℕ → List File → Type 0
  -- what it prints where it finds that a report is not valid
  pub rejection : List ℕ → List File → Type 0
  -- a stage of what it prints: what is there once that which it needs was computed
  pub stage : List ℕ → List File → Type 0
  -- what it prints where it stops at this level, the least one that has more questions than the budget
  pub beyond : List ℕ → ℕ → List File → Type 0
  -- the budget does not suffice: a level that it takes has more questions
  pub short : List File → Type 0
  -- why it is refused
  pub refusal : Refusal → List File → Type 0
  -- a file that it reads is not there
  pub lacking : List File → Type 0
  -- nothing but memory and the devices stands in its way
  pub possible : List File → Type 0
  -- the report that it checks is not valid
  pub invalid : List File → Type 0
  -- it uses fewer than two workers
  pub uses_few : List File → Type 0
  -- what it leaves of its last round where it was done
  pub shows : TrailData → List File → Type 0
  -- and where it stopped at this level
  pub shows_beyond : TrailData → ℕ → List File → Type 0

-- ---- the listing of a system with its proof
-- it is a valid report, where it is not longer than one may be
pub record IsProved (m : System) (text : List ℕ) : Type 0 where
  pub listing : IsProvedListing m text
  pub valid : length text ≤ most_report_bytes → IsValidReport m text

-- ---- the whole listing of a system, with the proof of it where that is asked for
abbrev pub IsSolution : Bool → System → List ℕ → Type 0
IsSolution false m text = IsTaskText Solve m text
IsSolution true m text = IsProved m text

-- a stage of it: of the listing, or the listing with its proof
abbrev pub IsSolutionStage : Bool → System → List ℕ → Type 0
IsSolutionStage false m text = IsTaskStage Solve m text
IsSolutionStage true m text = IsTaskStage Solve m text ⊎ IsProvedListing m text

-- ---- a report on the system of a file
-- the first bytes spell a system, the others are not too many, and this holds of both
abbrev pub OfReport : (System → List ℕ → Type 0) → List ℕ → List ℕ → Type 0
OfReport P bytes report = (m : System) × IsTextOf m bytes × (length report ≤ most_report_bytes) × P m report

-- the report is valid, or fails a test, and the text tells which
abbrev pub IsToldValid : List ℕ → System → List ℕ → Type 0
IsToldValid text m report = IsValidReport m report × (text ≡ finding_line Valid)

abbrev pub IsToldFailing : List ℕ → System → List ℕ → Type 0
IsToldFailing text m report = (line : ℕ) × (reason : Reason) × IsFailure m report line reason × (text ≡ finding_line (Fails line reason))

-- it is valid, and the text lists the cheapest diagnoses
abbrev pub IsToldCheapest : List ℕ → System → List ℕ → Type 0
IsToldCheapest text m report = IsValidReport m report × IsTaskText Cheapest m text

-- it fails one of the tests
abbrev pub FailsATest : System → List ℕ → Type 0
FailsATest m report = (line : ℕ) × (reason : Reason) × IsFailure m report line reason

-- the report is longer than one may be
abbrev pub IsReportTooLong : List ℕ → List ℕ → Type 0
IsReportTooLong bytes report = (m : System) × IsTextOf m bytes × ¬ (length report ≤ most_report_bytes)

-- why a report, or the file of its system, is refused
abbrev pub IsCheckRefusal : Refusal → List File → Type 0
IsCheckRefusal refusals.TooLong files = OfFirstFile (IsRefusedFor refusals.TooLong) files
IsCheckRefusal refusals.ReportTooLong files = OfTwoFiles IsReportTooLong files
IsCheckRefusal refusals.ScriptTooLong files = ⊥
IsCheckRefusal (refusals.Text number offset limit) files = OfFirstFile (IsRefusedFor (refusals.Text number offset limit)) files
IsCheckRefusal (refusals.Script number offset limit) files = ⊥
IsCheckRefusal (refusals.NotPlain name) files = ⊥

-- ---- a script of edits of the system of a file
-- the first bytes spell a system, the others a script of edits of it, and this holds of the systems that these list
abbrev pub OfSession : (List System → Type 0) → List ℕ → List ℕ → Type 0
OfSession P bytes script = (m : System) × IsTextOf m bytes × (edits : List Edit) × IsScriptOf m edits script × P (listed_systems m edits)

-- the first bytes spell a system, and the others are refused as a script of it
abbrev pub IsScriptRefused : Refusal → List ℕ → List ℕ → Type 0
IsScriptRefused why bytes script = (m : System) × IsTextOf m bytes × IsRefusedScript m why script

-- why a script, or the file of its system, is refused
abbrev pub IsSessionRefusal : Refusal → List File → Type 0
IsSessionRefusal refusals.TooLong files = OfFirstFile (IsRefusedFor refusals.TooLong) files
IsSessionRefusal refusals.ReportTooLong files = ⊥
IsSessionRefusal refusals.ScriptTooLong files = OfTwoFiles (IsScriptRefused refusals.ScriptTooLong) files
IsSessionRefusal (refusals.Text number offset limit) files = OfFirstFile (IsRefusedFor (refusals.Text number offset limit)) files
IsSessionRefusal (refusals.Script number offset limit) files = OfTwoFiles (IsScriptRefused (refusals.Script number offset limit)) files
IsSessionRefusal (refusals.NotPlain name) files = ⊥

-- ---- jobs that are alike
-- the text of a system for which the budget suffices
abbrev pub IsWithinBudget : (System → List ℕ → Type 0) → Task → ℕ → List ℕ → System → Type 0
IsWithinBudget IsText task budget text m = Suffices task budget m × IsText m text

-- the file spells a system for which the task is defined, and for which this holds
abbrev pub OfTask : Task → (System → Type 0) → List ℕ → Type 0
OfTask task P bytes = (m : System) × IsTextFor task m bytes × P m

-- a job that does a task for the system of one file: which text it prints, and in which stages
abbrev pub file_job : (System → List ℕ → Type 0) → (System → List ℕ → Type 0) → Task → Word → ℕ → ℕ → JobMeaning
file_job IsText IsPart task file budget workers = record {
  files = file ∷ [];
  budget = budget;
  workers = workers;
  output = λ text. OfOneFile (OfTask task (IsWithinBudget IsText task budget text));
  rejection = λ text files. ⊥;
  stage = λ text. OfOneFile (OfTask task (λ m. IsPart m text));
  beyond = λ text level. OfOneFile (OfTask task (IsListedBefore task budget level text));
  short = OfOneFile (OfTask task (IsShort task budget));
  refusal = λ why. OfOneFile (IsRefusedTask task why);
  lacking = λ files. files ≡ None ∷ [];
  possible = OfOneFile (OfTask task (Suffices task budget));
  invalid = λ files. ⊥;
  uses_few = OfOneFile (OfTask task (UsesFew workers));
  shows = λ t. OfOneFile (OfTask task (λ m. ShowsTask task workers m t));
  shows_beyond = λ t level. OfOneFile (OfTask task (λ m. ShowsBeyond level budget workers m t));
}

-- one that prints the text of the task
abbrev pub task_job : Task → Word → ℕ → ℕ → JobMeaning
task_job task file budget workers = file_job (IsTaskText task) (IsTaskStage task) task file budget workers

-- a job that checks a report on the system of a file, by one worker and within no budget: what it prints where the report is valid
abbrev pub report_job : (List ℕ → System → List ℕ → Type 0) → Word → Word → JobMeaning
report_job IsTold file report = record {
  files = file ∷ report ∷ [];
  budget = 4294967295;
  workers = 1;
  output = λ text. OfTwoFiles (OfReport (IsTold text));
  rejection = λ text. OfTwoFiles (OfReport (IsToldFailing text));
  stage = λ text files. OfTwoFiles (OfReport (IsTold text)) files ⊎ OfTwoFiles (OfReport (IsToldFailing text)) files;
  beyond = λ text level files. ⊥;
  short = λ files. ⊥;
  refusal = IsCheckRefusal;
  lacking = LacksOneOfTwo (λ bytes. (m : System) × IsTextOf m bytes);
  possible = OfTwoFiles (OfReport IsValidReport);
  invalid = OfTwoFiles (OfReport FailsATest);
  uses_few = λ files. Unit {0};
  shows = λ t files. IsNoTrail t;
  shows_beyond = λ t level files. IsNoTrail t;
}

-- the job that lists the system of a file wherever a script of its edits asks for it, by one worker, within a budget of each listing
abbrev pub session_job : Word → Word → ℕ → JobMeaning
session_job file script budget = record {
  files = file ∷ script ∷ [];
  budget = budget;
  workers = 1;
  output = λ text. OfTwoFiles (OfSession (λ systems. IsSessionWithin budget systems text));
  rejection = λ text files. ⊥;
  stage = λ text. OfTwoFiles (OfSession (λ systems. IsSessionStage systems text));
  beyond = λ text level. OfTwoFiles (OfSession (λ systems. IsSessionBefore budget level systems text));
  short = OfTwoFiles (OfSession (IsShortForOne budget));
  refusal = IsSessionRefusal;
  lacking = LacksOneOfTwo (λ bytes. (m : System) × IsTextOf m bytes);
  possible = OfTwoFiles (OfSession (SufficesForEach budget));
  invalid = λ files. ⊥;
  uses_few = λ files. Unit {0};
  shows = λ t files. IsNoTrail t;
  shows_beyond = λ t level files. IsNoTrail t;
}

-- the job that counts what is listed of the system that is generated for a number
abbrev pub made_job : ℕ → ℕ → ℕ → JobMeaning
made_job number budget workers = record {
  files = [];
  budget = budget;
  workers = workers;
  output = λ text files. AfterNumber (IsListingText Make budget) number text;
  rejection = λ text files. ⊥;
  stage = λ text files. AfterNumber (λ rest m. IsTaskStage Make m rest) number text;
  beyond = λ text level files. AfterNumber (IsListedBefore Make budget level) number text;
  short = λ files. IsShort Make budget (generated_system number);
  refusal = λ why files. ⊥;
  lacking = λ files. ⊥;
  possible = λ files. Suffices Make budget (generated_system number);
  invalid = λ files. ⊥;
  uses_few = λ files. UsesFew workers (generated_system number);
  shows = λ t files. ShowsTask Make workers (generated_system number) t;
  shows_beyond = λ t level files. ShowsBeyond level budget workers (generated_system number) t;
}

-- ---- the jobs; each job to come adds its definition here
abbrev pub meaning : Request → JobMeaning
meaning (equilibria file budget workers) = task_job Equilibria file budget workers
meaning (grounded file budget workers) = task_job Grounded file budget workers
meaning (solve file budget workers proof) = file_job (IsSolution proof) (IsSolutionStage proof) Solve file budget workers
meaning (cheapest file None budget workers) = task_job Cheapest file budget workers
meaning (cheapest file (Some report) budget workers) = report_job IsToldCheapest file report
meaning (check file report) = report_job IsToldValid file report
meaning (make number budget workers) = made_job number budget workers
meaning (session file script budget) = session_job file script budget

-- ---- the job that words ask for
-- the names of the files that a job reads, in order
abbrev pub files_in : Request → List Word
files_in job = (meaning job).files

-- the words ask for a job, and this holds of its meaning and of what the shelf tells of its files
pub record OfJob (words : List Word) (held : Option (Word → File)) (P : JobMeaning → List File → Type 0) : Type 0 where
  pub job : Request
  pub asked : IsJobOf words job
  pub of_files : IfSome (told_all held (files_in job)) (P (meaning job))

-- where the words ask for a job, this holds of its meaning and of what the shelf tells of its files
abbrev pub IfJob : List Word → Option (Word → File) → (JobMeaning → List File → Type 0) → Type 0
IfJob words held P = (job : Request) → IsJobOf words job → IfSome (told_all held (files_in job)) (P (meaning job))
