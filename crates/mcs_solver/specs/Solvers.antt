-- What a solver of one context stands for.
use Rattle.std.specs.Prelude.{ℕ, cond, Bool, false, List, [], ◌∷◌, None}
use Rattle.mcs_system.specs.Plain.{System}
use Rattle.mcs_states.specs.Oracles.{OracleState}

-- an oracle of this context of the system that never misses; its origin is the one empty string where it keeps its answers with certificates, and no string where not
abbrev pub solver_with : Bool → System → ℕ → List ℕ → OracleState
solver_with keep m i journal = record { system = m; context = i; journal = journal; holds = None; origin = cond keep ([] ∷ []) [] }

-- one that keeps no answers
abbrev pub solver_of : System → ℕ → List ℕ → OracleState
solver_of m i journal = solver_with false m i journal
