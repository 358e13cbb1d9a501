-- What a search keeps: each level was opened where nothing more followed.
use Rattle.std.specs.Prelude.{◌≡◌, ℕ, zero, suc, ◌+◌, ◌*◌, ◌-◌, ◌<◌, ◌^◌, cond, nat_eq, List, [], ◌∷◌, take, length, Option, Some, None, slice_get}
use Rattle.std.specs.List.{AllByRecursion}
use Rattle.mcs_search.specs.declared.searching.Turn.{Turn}
use Rattle.mcs_search.specs.declared.searching.Turn.TheVariants as turn
use Rattle.mcs_engine.specs.declared.state.Reach.{Reach}
use Rattle.mcs_engine.specs.declared.state.State.{State}
use Rattle.mcs_engine.specs.declared.trail.Entry.{Entry}
use Rattle.mcs_engine.specs.States.{IsFull, IsState, reach_of}
use Rattle.mcs_engine.specs.Trails.{IsFalseAt, IsOpen, IsClauseSatisfied}
use Rattle.mcs_engine.specs.Watching.{IsReached}

-- where a level began each clause had a true literal, or two that were free
abbrev pub AreOpenBelow : State → Type 0
AreOpenBelow s = (k : ℕ) (r : Reach) → slice_get s.levels.items k ≡ Some r → AllByRecursion (IsOpen (take r.entries s.trail.entries.items)) s.clauses

-- what it takes to take back a run, of which the literals come last
pub record CanBeTakenBack (old new : State) : Type 0 where
  pub short : new.watches.short.items ≡ old.watches.short.items
  pub marked : new.kept ≡ old.kept
  pub before : IsReached new.clauses new.watches old.trail.entries.items (reach_of old)

pub record IsSatSearch (s : State) : Type 0 where
  pub state : IsState s
  pub full : IsFull s
  pub before : AreOpenBelow s

-- what the last run of unit clauses came to
abbrev pub IsRun : State → Option ℕ → Type 0
IsRun s None = AllByRecursion (IsOpen s.trail.entries.items) s.clauses
IsRun s (Some i) = IsFalseAt s.clauses s.trail.entries.items i

pub record HasRun (s : State) (found : Option ℕ) : Type 0 where
  pub search : IsSatSearch s
  pub run : IsRun s found

-- ---- how much is left
-- of n places: 2 for a free one, 1 for a decision, 0 for an implied literal, as the digits of a number to the base 3
abbrev pub work_left : ℕ → List Entry → ℕ
work_left zero entries = 0
work_left (suc n) [] = 3 ^ suc n - 1
work_left (suc n) (e ∷ entries) = (cond (nat_eq e.reason 0) 1 0) * 3 ^ n + work_left n entries

abbrev pub work_of : State → ℕ
work_of s = work_left (length s.trail.positions.items) s.trail.entries.items

-- a turn was taken, with a run of unit clauses and less left to do; or all clauses are satisfied; or the clause of the index is false though nothing was decided
abbrev pub IsTurned : State → State → Turn → Type 0
IsTurned old new (turn.Goes found) = HasRun new found × (work_of new < work_of old)
IsTurned old new turn.Satisfied = AllByRecursion (IsClauseSatisfied new.trail.entries.items) new.clauses
IsTurned old new (turn.Refuted i) = IsFalseAt new.clauses new.trail.entries.items i × (new.levels.items ≡ [])

-- all clauses are satisfied; or the clause of the index is false though nothing was decided
abbrev pub IsEnd : State → Option ℕ → Type 0
IsEnd s None = AllByRecursion (IsClauseSatisfied s.trail.entries.items) s.clauses
IsEnd s (Some i) = IsFalseAt s.clauses s.trail.entries.items i × (s.levels.items ≡ [])
