-- What a task prints of a system within a budget, and why it stops.
use Rattle.std.specs.Prelude.{◌≡◌, ◌⊎◌, ℕ, ◌+◌, ◌<◌, ◌≤◌, false, List, ◌++◌, length, codes, Option, Some, None, slice_get, Result, IsErrOf}
use Rattle.std.specs.Fmt.{decimal}
use Rattle.mcs_ports.specs.Pieces.{Device, appended}
use Rattle.mcs_text.specs.Writes.{WritesFront}
use Rattle.mcs_system.specs.Plain.{System}
use Rattle.mcs_system.specs.Systems.{variables}
use Rattle.mcs_system.specs.Levels.{HasQuestions}
use Rattle.mcs_states.specs.Oracles.{OracleState}
use Rattle.mcs_states.specs.Evaluators.{EvaluatorState}
use Rattle.mcs_generator.specs.Generated.{generated_system}
use Rattle.mcs_work.specs.Tasks.{IsTaskText, IsTaskStage, IsTaskUpTo, TakesLevel}
use Rattle.mcs_work.specs.declared.task.Task.{Task}
use Rattle.mcs_work.specs.declared.task.Task.TheVariants.{Make}
use Rattle.mcs_proof_writer.specs.Proving.{HasBegunProof}
use Rattle.mcs_listing.specs.Texts.{IsTextOf}
use Rattle.mcs_listing.specs.declared.ending.Stop.{Stop}
use Rattle.mcs_listing.specs.declared.ending.Stop.TheVariants as stops

-- ---- a task within a budget, of a file that is the text of a system
-- the system has more questions of the level than the budget
abbrev pub NeedsMoreThan : System → ℕ → ℕ → Type 0
NeedsMoreThan m level budget = HasQuestions m level (budget + 1)

-- no level of the task has
abbrev pub Suffices : Task → ℕ → System → Type 0
Suffices task budget m = (level : ℕ) → TakesLevel task m level → ¬ NeedsMoreThan m level budget

-- some level has
pub record IsShort (task : Task) (budget : ℕ) (m : System) : Type 0 where
  pub level : ℕ
  pub taken : TakesLevel task m level
  pub beyond : NeedsMoreThan m level budget

-- this level is the least one that has
pub record IsLeastBeyond (task : Task) (budget level : ℕ) (m : System) : Type 0 where
  pub taken : TakesLevel task m level
  pub beyond : NeedsMoreThan m level budget
  pub least : (k : ℕ) → k < level → ¬ NeedsMoreThan m k budget

-- the file spells a system for which this holds
abbrev pub OfSystem : (System → Type 0) → List ℕ → Type 0
OfSystem P bytes = (m : System) × IsTextOf m bytes × P m

-- the text of the task for this system, for which the budget suffices
abbrev pub IsListingText : Task → ℕ → List ℕ → System → Type 0
IsListingText task budget text m = Suffices task budget m × IsTaskText task m text

-- what is printed before the level, the least one that has more questions than the budget
abbrev pub IsListedBefore : Task → ℕ → ℕ → List ℕ → System → Type 0
IsListedBefore task budget level text m = IsLeastBeyond task budget level m × IsTaskUpTo task m level text

-- ---- a system that is generated for a number
-- make NUMBER: N contexts, R rules, V variables
unfoldable pub number_line : ℕ → System → List ℕ
number_line number m =
    codes "make " ++ (decimal number ++ (codes ": " ++ (decimal (length m.contexts) ++ (codes " contexts, " ++ (decimal (length m.bridges)
    ++ (codes " rules, " ++ (decimal (length (variables m)) ++ codes " variables\n")))))))

-- that line, and a text after it for which this holds
abbrev pub AfterNumber : (List ℕ → System → Type 0) → ℕ → List ℕ → Type 0
AfterNumber P number text = (rest : List ℕ) × P rest (generated_system number) × (text ≡ number_line number (generated_system number) ++ rest)

-- ---- what was written
-- a text for which this holds was written
pub record Prints (P : List ℕ → Type 0) (before now : Option (List ℕ)) : Type 0 where
  pub text : List ℕ
  pub holds : P text
  pub written : now ≡ appended before text

-- a front of one was
pub record PrintsFront (P : List ℕ → Type 0) (before now : Option (List ℕ)) : Type 0 where
  pub text : List ℕ
  pub holds : P text
  pub front : WritesFront text before now

-- a call used the device: the count did not fall, no write failed unless that is told, and nothing was noted
pub record UsesSink {T : Type 0} (before now : Device) (r : Result T Stop) : Type 0 where
  pub later : before.faults ≤ now.faults
  pub unfailed : ¬ IsErrOf r stops.WriteFault → now.faults ≡ before.faults
  pub notes : now.notes ≡ before.notes

-- ---- the work on a system
-- why the work on a system stops that prints such stages, and what was written then
abbrev pub StopsStages : (System → List ℕ → Type 0) → Stop → Task → ℕ → System → Type 0 → Option (List ℕ) → Option (List ℕ) → Type 0
StopsStages IsPart stops.Usage task budget m sink_rose before now = ⊥
StopsStages IsPart (stops.Refused why) task budget m sink_rose before now = ⊥
StopsStages IsPart (stops.Unfinished level limit) task budget m sink_rose before now = (limit ≡ budget) × Prints (λ text. IsListedBefore task budget level text m) before now
StopsStages IsPart stops.ReadFault task budget m sink_rose before now = ⊥
StopsStages IsPart stops.WriteFault task budget m sink_rose before now = sink_rose × PrintsFront (IsPart m) before now
StopsStages IsPart stops.Memory task budget m sink_rose before now = PrintsFront (IsPart m) before now

-- the same of the stages of a task
abbrev pub StopsWork : Stop → Task → ℕ → System → Type 0 → Option (List ℕ) → Option (List ℕ) → Type 0
StopsWork stop task budget m sink_rose before now = StopsStages (IsTaskStage task) stop task budget m sink_rose before now

-- the same where its number was printed before
abbrev pub StopsGenerated : Stop → ℕ → ℕ → Type 0 → Option (List ℕ) → Option (List ℕ) → Type 0
StopsGenerated stops.Usage number budget sink_rose before now = ⊥
StopsGenerated (stops.Refused why) number budget sink_rose before now = ⊥
StopsGenerated (stops.Unfinished level limit) number budget sink_rose before now = (limit ≡ budget) × Prints (AfterNumber (IsListedBefore Make budget level) number) before now
StopsGenerated stops.ReadFault number budget sink_rose before now = ⊥
StopsGenerated stops.WriteFault number budget sink_rose before now = sink_rose × PrintsFront (AfterNumber (λ rest m. IsTaskStage Make m rest) number) before now
StopsGenerated stops.Memory number budget sink_rose before now = (now ≡ before) ⊎ PrintsFront (AfterNumber (λ rest m. IsTaskStage Make m rest) number) before now

-- why the writing of the proof itself stops, and what was written then: nothing, or a front of it
abbrev pub StopsAnswers : Stop → System → ℕ → Type 0 → Option (List ℕ) → Option (List ℕ) → Type 0
StopsAnswers stops.Usage m level sink_rose before now = ⊥
StopsAnswers (stops.Refused why) m level sink_rose before now = ⊥
StopsAnswers (stops.Unfinished at limit) m level sink_rose before now = ⊥
StopsAnswers stops.ReadFault m level sink_rose before now = ⊥
StopsAnswers stops.WriteFault m level sink_rose before now = sink_rose × ((now ≡ before) ⊎ HasBegunProof m level before now)
StopsAnswers stops.Memory m level sink_rose before now = (now ≡ before) ⊎ HasBegunProof m level before now

-- ---- the evaluator of a run
-- none of the oracles can miss an answer
abbrev pub AreSure : List OracleState → Type 0
AreSure oracles = (i : ℕ) (o : OracleState) → slice_get oracles i ≡ Some o → o.holds ≡ None

-- an evaluator of the system that was asked nothing, whose oracles never miss
pub record IsNewEvaluator (m : System) (budget : ℕ) (e : EvaluatorState) : Type 0 where
  pub system : e.system ≡ m
  pub budget_is : e.budget ≡ budget
  pub fresh : e.done ≡ None
  pub going : e.halted ≡ false
  pub sure : AreSure e.oracles

-- each of the oracles has this origin
abbrev pub HaveOrigin : List (List ℕ) → List OracleState → Type 0
HaveOrigin origin oracles = (i : ℕ) (o : OracleState) → slice_get oracles i ≡ Some o → o.origin ≡ origin
