-- What a solver keeps.
use Rattle.std.specs.Prelude.{◌≡◌, ℕ, ◌+◌, ◌-◌, ◌<◌, ◌≤◌, ◌⊎◌, List, [], ◌∷◌, ◌++◌, ℤ, neg_ℤ, length, map, take, Some, None, slice_get}
use Rattle.mcs_trace.specs.Traces.{IsChainResolvent}
use Rattle.mcs_engine.specs.declared.latest.Latest.{Latest}
use Rattle.mcs_engine.specs.declared.state.Reach.{Reach}
use Rattle.mcs_engine.specs.declared.state.State.{State}
use Rattle.mcs_engine.specs.declared.state.Turn.{Turn}
use Rattle.mcs_engine.specs.declared.trail.Entry.{Entry}
use Rattle.mcs_engine.specs.Learning.{IsLatest, IsSingle}
use Rattle.mcs_engine.specs.Extending.{IsTrail}
use Rattle.mcs_engine.specs.Trails.{AreLevelled, decisions, level_at, literal_at, reason_at}
use Rattle.mcs_engine.specs.Watching.{AreWatched, AreVisitsKept, IsReached}

-- the levels above 0 begin at the decisions, in their order
pub record AreStarts (entries : List Entry) (levels : List Reach) : Type 0 where
  pub count : length levels ≡ decisions entries
  pub start : (k : ℕ) (r : Reach) → slice_get levels k ≡ Some r → (r.entries < length entries) × (reason_at entries r.entries ≡ 0) × (decisions (take r.entries entries) ≡ k)

-- what stands for the chains of clauses that were not learnt
abbrev pub no_chains : List (List ℤ) → List (List ℕ)
no_chains known = map (λ (c : List ℤ). []) known

-- each clause has the chain that it is resolved from by earlier ones; one that was not learnt has none
pub record AreChains (known : List (List ℤ)) (chains : List (List ℕ)) : Type 0 where
  pub sized : length chains ≡ length known
  pub right : (i : ℕ) (c : List ℤ) (ns : List ℕ) → slice_get known i ≡ Some c → slice_get chains i ≡ Some ns → (ns ≡ []) ⊎ IsChainResolvent (take i known) ns c

-- how far a solver has come now
abbrev pub reach_of : State → Reach
reach_of s = record { entries = length s.trail.entries.items; visited = s.visited; settled = s.settled }

pub record IsState (s : State) : Type 0 where
  pub chains : AreChains s.clauses s.chains
  pub trail : IsTrail s.clauses s.trail
  pub levelled : AreLevelled s.trail.entries.items
  pub starts : AreStarts s.trail.entries.items s.levels.items
  pub watched : AreWatched s.clauses s.watches
  pub shorts : (j i : ℕ) → slice_get s.watches.short.items j ≡ Some i → i < length s.clauses
  pub bound : s.visited ≤ length s.trail.entries.items
  pub short_bound : s.settled ≤ length s.watches.short.items
  pub bounds : (k : ℕ) (r : Reach) → slice_get s.levels.items k ≡ Some r → (r.visited ≤ r.entries) × (r.settled ≤ length s.watches.short.items)
  pub reached : (k : ℕ) (r : Reach) → slice_get s.levels.items k ≡ Some r → IsReached s.clauses s.watches s.trail.entries.items r
  pub now : IsReached s.clauses s.watches s.trail.entries.items (reach_of s)
  pub kept : AreVisitsKept s.clauses s.watches s.trail.entries.items s.levels.items s.kept

-- each clause has its pair
abbrev pub IsFull : State → Type 0
IsFull s = length s.watches.pairs ≡ length s.clauses

pub record IsReady (s : State) : Type 0 where
  pub state : IsState s
  pub full : IsFull s

-- nothing but so many variables
pub record IsBlank (vars : ℕ) (s : State) : Type 0 where
  pub state : IsState s
  pub sized : length s.trail.positions.items ≡ vars + 1
  pub clauses : s.clauses ≡ []
  pub chains : s.chains ≡ []
  pub levels : s.levels.items ≡ []
  pub entries : s.trail.entries.items ≡ []

-- ---- what changes
-- the variables stay
abbrev pub SameRoom : State → State → Type 0
SameRoom old new = length new.trail.positions.items ≡ length old.trail.positions.items

-- the clauses stay
pub record KeepsClauses (old new : State) : Type 0 where
  pub state : IsState new
  pub clauses : new.clauses ≡ old.clauses
  pub chains : new.chains ≡ old.chains
  pub positions : SameRoom old new
  pub full : IsFull old → IsFull new

-- the levels do too
pub record KeepsLevels (old new : State) : Type 0 where
  pub same : KeepsClauses old new
  pub levels : new.levels.items ≡ old.levels.items

-- and the literals made true
pub record KeepsLiterals (old new : State) : Type 0 where
  pub same : KeepsLevels old new
  pub entries : new.trail.entries.items ≡ old.trail.entries.items

-- the literals made true and the levels stay
pub record KeepsTrail (old new : State) : Type 0 where
  pub state : IsState new
  pub positions : SameRoom old new
  pub entries : new.trail.entries.items ≡ old.trail.entries.items
  pub levels : new.levels.items ≡ old.levels.items

-- all stays, but there may be more variables
pub record IsWider (old new : State) : Type 0 where
  pub state : IsState new
  pub clauses : new.clauses ≡ old.clauses
  pub chains : new.chains ≡ old.chains
  pub levels : new.levels.items ≡ old.levels.items
  pub longer : length old.trail.positions.items ≤ length new.trail.positions.items

-- a level is opened with the literal
pub record IsDecided (old new : State) (literal : ℤ) : Type 0 where
  pub entries : new.trail.entries.items ≡ old.trail.entries.items ++ record { literal = literal; reason = 0; level = length old.levels.items + 1 } ∷ []
  pub levels : new.levels.items ≡ old.levels.items ++ reach_of old ∷ []

-- the levels above the one are taken back
pub record IsBack (old new : State) (level : ℕ) : Type 0 where
  pub entries : (r : Reach) → slice_get old.levels.items level ≡ Some r → new.trail.entries.items ≡ take r.entries old.trail.entries.items
  pub levels : new.levels.items ≡ take level old.levels.items
  pub stays : length old.levels.items ≤ level → new.trail.entries.items ≡ old.trail.entries.items

-- a clause is learnt: the levels above that of its latest literal but one are taken back, or all above 0 where it has but one
pub record IsLearntBack (old new : State) (c : List ℤ) (ns : List ℕ) : Type 0 where
  pub positions : SameRoom old new
  pub clauses : new.clauses ≡ old.clauses ++ c ∷ []
  pub chains : new.chains ≡ old.chains ++ ns ∷ []
  pub latest : Latest
  pub is_latest : IsLatest old.trail.entries.items c latest
  pub level : ℕ
  pub below : level < length old.levels.items
  pub none : latest.others ≡ 0 → level ≡ 0
  pub some : 0 < latest.others → level ≡ level_at old.trail.entries.items (latest.others - 1)
  pub back : IsBack old new level

-- the clauses, the literals made true and the levels stay
pub record IsUnchanged (old new : State) : Type 0 where
  pub positions : SameRoom old new
  pub clauses : new.clauses ≡ old.clauses
  pub chains : new.chains ≡ old.chains
  pub entries : new.trail.entries.items ≡ old.trail.entries.items
  pub levels : new.levels.items ≡ old.levels.items

abbrev pub IsLastLevel : List Reach → Reach → Type 0
IsLastLevel levels r = slice_get levels (length levels - 1) ≡ Some r

-- one literal alone of the clause became false on the last level
pub record IsOfLastLevel (s : State) (c : List ℤ) : Type 0 where
  pub last : Reach
  pub is : IsLastLevel s.levels.items last
  pub single : IsSingle s.trail.entries.items last.entries c

-- back to the level of the latest of the others, or to level 0
abbrev pub IsTurn : List Entry → Latest → Turn → Type 0
IsTurn entries latest turn =
    (latest.others ≡ 0 → (turn.level ≡ 0) × (turn.place ≡ latest.place) × (turn.pair ≡ None))
    × (0 < latest.others → (turn.level ≡ level_at entries (latest.others - 1)) × (turn.place ≡ latest.others - 1)
    × (turn.pair ≡ Some (record { first = neg_ℤ (literal_at entries latest.place); second = neg_ℤ (literal_at entries (latest.others - 1)) })))
