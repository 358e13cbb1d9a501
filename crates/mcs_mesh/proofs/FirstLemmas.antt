-- What the final step tells of the first state.
use Rattle.std.proofs.Common.{ℕ, Option, Some, None}
use Rattle.std.specs.Prelude.{MatchOption}
use Rattle.mcs_system.specs.Plain.{System}
use Rattle.mcs_states.specs.Evaluators.{IsStateOf}
use Rattle.mcs_states.specs.First.{IsFirstState}
use Rattle.mcs_joint.specs.First.{TellsFirst}

pub told_first : (m : System) (pair : ℕ) (told : Option ℕ) → TellsFirst (IsStateOf m pair) told → MatchOption told ((σ : ℕ) → ¬ IsStateOf m pair σ) (IsFirstState m pair)
told_first m pair None none = none
told_first m pair (Some σ) first = record { one = first.one; first = first.first }
