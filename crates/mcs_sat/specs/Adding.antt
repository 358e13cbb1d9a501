-- A state to which the clauses of a list are added.
use Rattle.std.specs.Prelude.{◌≡◌, ◌+◌, List, [], ◌++◌, ℤ, length}
use Rattle.mcs_trace.specs.Clauses.{ClauseList}
use Rattle.mcs_engine.specs.declared.state.State.{State}
use Rattle.mcs_engine.specs.States.{IsReady, no_chains}

-- the clauses are added, as given ones
pub record AreAdded (old new : State) (added : List (List ℤ)) : Type 0 where
  pub clauses : new.clauses ≡ old.clauses ++ added
  pub chains : new.chains ≡ old.chains ++ no_chains added

-- the clauses of the list, and nothing decided or made true
pub record IsFreshFor (f : ClauseList) (s : State) : Type 0 where
  pub ready : IsReady s
  pub sized : length s.trail.positions.items ≡ f.vars + 1
  pub clauses : s.clauses ≡ f.clauses
  pub chains : s.chains ≡ no_chains f.clauses
  pub entries : s.trail.entries.items ≡ []
  pub levels : s.levels.items ≡ []
