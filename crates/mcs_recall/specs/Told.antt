-- What an evaluator has told of its system.
use Rattle.std.specs.Prelude.{Option, Some, None}
use Rattle.mcs_system.specs.Plain.{System}
use Rattle.mcs_states.specs.Evaluators.{AreRepairs}
use Rattle.mcs_recall.specs.declared.told.Repairs as repairs
use Rattle.mcs_recall.specs.declared.told.Told as code
use Rattle.mcs_recall.specs.Shown.{AreShown}

-- the minimal diagnoses of a level, where they are kept
abbrev pub AreRepairsTold : System → Option repairs.Repairs → Type 0
AreRepairsTold m None = Unit {0}
AreRepairsTold m (Some kept) = AreRepairs m kept.level kept.pairs.items

-- the first states and the minimal diagnoses that were told are those of the system
pub record IsToldOf (m : System) (told : code.Told) : Type 0 where
  pub shown : AreShown m told.shown.items
  pub repairs : AreRepairsTold m told.repairs
