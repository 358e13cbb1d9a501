-- Whether oracles hold the answers that the listing of a system rests on, what is left once it was computed by them, and why the work on it stopped.
use Rattle.std.specs.Prelude.{◌≡◌, ℕ, List, length, None, Some, slice_get}
use Rattle.mcs_system.specs.Plain.{System}
use Rattle.mcs_states.specs.Evaluators.{EvaluatorState}
use Rattle.mcs_states.specs.Oracles.{OracleState, Lacks}
use Rattle.mcs_mesh.specs.Rounds.{evaluator_state_of, AreFresh}
use Rattle.mcs_report.specs.Solutions.{IsWholeListing}
use Rattle.mcs_work.specs.declared.task.WorkStop.{WorkStop}
use Rattle.mcs_work.specs.declared.task.WorkStop.TheVariants.{Write, Spent, Missing, Memory}
use Rattle.mcs_recall.specs.Told.{IsToldOf}
use Rattle.mcs_recall.specs.declared.told.Told.{Told}
use Rattle.mcs_check.specs.Validity.{IsNeeded}

-- ---- oracles
-- there is one for each context, and none was asked
pub record AreOraclesOf (m : System) (oracles : List OracleState) : Type 0 where
  pub one_each : length oracles ≡ length m.contexts
  pub fresh : AreFresh m oracles

-- none lacks an answer to a question that is needed
abbrev pub HoldAll : System → List OracleState → Type 0
HoldAll m oracles = (i x : ℕ) (o : OracleState) → IsNeeded m i x → slice_get oracles i ≡ Some o → ¬ Lacks o x

-- the same of new ones
pub record AreWholeOracles (m : System) (oracles : List OracleState) : Type 0 where
  pub own : AreOraclesOf m oracles
  pub hold : HoldAll m oracles

-- the same, with what was told of the system
pub record AreAccepted (m : System) (oracles : List OracleState) (told : Told) : Type 0 where
  pub whole : AreWholeOracles m oracles
  pub right : IsToldOf m told

-- one of them does
pub record LackOne (m : System) (oracles : List OracleState) : Type 0 where
  pub context : ℕ
  pub active : ℕ
  pub needed : IsNeeded m context active
  pub oracle : OracleState
  pub is_it : slice_get oracles context ≡ Some oracle
  pub lacks : Lacks oracle active

-- ---- the listing by them
-- the evaluator that has asked nothing, within as many questions as there are
abbrev pub start_of : System → List OracleState → EvaluatorState
start_of m oracles = evaluator_state_of 1 m 4294967295 None None oracles

-- the listing was computed, the oracles came back as they were, and what was told with them
pub record IsRelisted (m : System) (oracles : List OracleState) (text : List ℕ) (again : List OracleState) (told : Told) : Type 0 where
  pub whole : IsWholeListing m text
  pub hold : HoldAll m oracles
  pub same : again ≡ oracles
  pub right : IsToldOf m told

-- ---- stops
abbrev pub IsSpentStop : WorkStop → Type 0
IsSpentStop Write = ⊥
IsSpentStop (Spent level) = Unit {0}
IsSpentStop (Missing context active) = ⊥
IsSpentStop Memory = ⊥

abbrev pub IsMissingStop : WorkStop → Type 0
IsMissingStop Write = ⊥
IsMissingStop (Spent level) = ⊥
IsMissingStop (Missing context active) = Unit {0}
IsMissingStop Memory = ⊥

-- a write failed, or memory ran out
abbrev pub IsCutOff : WorkStop → Type 0
IsCutOff Write = Unit {0}
IsCutOff (Spent level) = ⊥
IsCutOff (Missing context active) = ⊥
IsCutOff Memory = Unit {0}
