-- A clause that is false, as marks at the places that made its literals so.
use Rattle.std.specs.Prelude.{◌≡◌, ◌≢◌, ℕ, ◌<◌, ◌≤◌, ◌⊎◌, ◌↔◌, List, Bool, false, ℤ, neg_ℤ, IsTrue, get_or, length, unsigned_abs}
use Rattle.mcs_base.specs.Listings.{IsAmong}
use Rattle.mcs_trace.specs.Clauses.{IsClause}
use Rattle.mcs_trace.specs.Traces.{IsChainResolvent}
use Rattle.mcs_engine.specs.declared.trail.Entry.{Entry}
use Rattle.mcs_engine.specs.Learning.{GoesOnByReasons}
use Rattle.mcs_engine.specs.Trails.{IsFalse, literal_at}

abbrev pub IsVariableMarked : List Bool → ℕ → Type 0
IsVariableMarked marks p = IsTrue (get_or marks p false)

-- the variable of the literal at the place is one of the clause
abbrev pub IsMetAt : List Entry → List ℤ → ℕ → Type 0
IsMetAt entries c p = (k : ℤ) × IsAmong k c × (unsigned_abs (literal_at entries p) ≡ unsigned_abs k)

-- the places of the entries that are so are marked too, and no others
pub record MarksAlso (entries : List Entry) (P : ℕ → Type 0) (old new : List Bool) : Type 0 where
  pub sized : length new ≡ length old
  pub exactly : (p : ℕ) → p < length entries → IsVariableMarked new p ↔ (IsVariableMarked old p ⊎ P p)

-- the clause has the negation of the literal at a place exactly where that is marked
pub record IsMarking (entries : List Entry) (marks : List Bool) (c : List ℤ) : Type 0 where
  pub sized : length marks ≡ length entries
  pub clause : IsClause c
  pub all_false : IsFalse entries c
  pub exactly : (p : ℕ) → p < length entries → IsVariableMarked marks p ↔ IsAmong (neg_ℤ (literal_at entries p)) c

-- the chain gives the clause of the marks
pub record IsMarkedChain (known : List (List ℤ)) (entries : List Entry) (chain : List ℕ) (marks : List Bool) : Type 0 where
  pub clause : List ℤ
  pub right : IsChainResolvent known chain clause
  pub marking : IsMarking entries marks clause

-- the chain goes on by reasons, and gives the clause of the marks
pub record IsResolvedOn (known : List (List ℤ)) (entries : List Entry) (old new : List ℕ) (marks : List Bool) : Type 0 where
  pub marked : IsMarkedChain known entries new marks
  pub reasons : GoesOnByReasons known entries old new

-- a place from the one up to below the other is marked
abbrev pub IsMarkedWithin : List Bool → ℕ → ℕ → Type 0
IsMarkedWithin marks from to = (p : ℕ) × (from ≤ p) × (p < to) × IsVariableMarked marks p

-- none is
abbrev pub AreUnmarked : List Bool → ℕ → ℕ → Type 0
AreUnmarked marks from to = (p : ℕ) → from ≤ p → p < to → ¬ IsVariableMarked marks p

-- one place alone from the one on is marked
pub record IsSingleMark (start : ℕ) (marks : List Bool) : Type 0 where
  pub place : ℕ
  pub late : start ≤ place
  pub within : place < length marks
  pub marked : IsVariableMarked marks place
  pub only : (p : ℕ) → start ≤ p → p < length marks → IsVariableMarked marks p → p ≡ place

-- the place is marked no more, those after it are as before, and of those before it some more may be
pub record IsTakenOff (old new : List Bool) (place : ℕ) : Type 0 where
  pub sized : length new ≡ length old
  pub kept : (p : ℕ) → p ≢ place → IsVariableMarked old p → IsVariableMarked new p
  pub above : (p : ℕ) → place < p → p < length old → IsVariableMarked new p → IsVariableMarked old p
  pub gone : ¬ IsVariableMarked new place

-- the literal is the negation of one at a marked place below the number
abbrev pub IsOfMarks : List Entry → List Bool → ℕ → ℤ → Type 0
IsOfMarks entries marks n k = (p : ℕ) × (p < n) × IsVariableMarked marks p × (k ≡ neg_ℤ (literal_at entries p))
