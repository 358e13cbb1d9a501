-- The minimal diagnoses that a mesh has found.
use Rattle.std.specs.Prelude.{◌≡◌, ℕ, List, [], Option, Some, None}
use Rattle.mcs_system.specs.Plain.{System}
use Rattle.mcs_states.specs.Evaluators.{AreRepairs}

-- where a level is told, they are the listing of those with at most so many marks; where none is, there are none
abbrev pub AreRepairsFound : System → Option ℕ → List ℕ → Type 0
AreRepairsFound m None pairs = pairs ≡ []
AreRepairsFound m (Some level) pairs = AreRepairs m level pairs
