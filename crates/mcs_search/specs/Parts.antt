-- Some of the clauses of a state, which are searched alone.
use Rattle.std.specs.Prelude.{◌≡◌, ◌≢◌, ℕ, ◌<◌, ◌≤◌, List, [], ℤ, length, get_or, Some, slice_get}
use Rattle.mcs_trace.specs.Traces.{numbered_clause}
use Rattle.mcs_engine.specs.declared.state.State.{State}
use Rattle.mcs_engine.specs.States.{IsState, SameRoom}

-- each of the first clauses is the one of its number among the others
abbrev pub AreNumbered : List (List ℤ) → List ℕ → List (List ℤ) → Type 0
AreNumbered part numbers known = (i : ℕ) (c : List ℤ) → i < length numbers → slice_get part i ≡ Some c → numbered_clause known (get_or numbers i 0) ≡ Some c

-- a state over the same variables, where nothing is decided: its first clauses are those of the numbers, and the others were learnt
pub record IsPartState (whole part : State) (numbers : List ℕ) : Type 0 where
  pub sound : IsState whole
  pub state : IsState part
  pub base : part.levels.items ≡ []
  pub positions : SameRoom whole part
  pub sized : length numbers ≤ length part.clauses
  pub numbered : AreNumbered part.clauses numbers whole.clauses
  pub learnt : (i : ℕ) → length numbers ≤ i → slice_get part.chains i ≢ Some []

-- a part that has learnt nothing: each of its clauses has its number
pub record IsGathered (whole part : State) (numbers : List ℕ) : Type 0 where
  pub taken : IsPartState whole part numbers
  pub all : length numbers ≡ length part.clauses
