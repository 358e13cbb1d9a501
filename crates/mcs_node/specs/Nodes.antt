-- What a node is seen as, and what its calls make of it.
use Rattle.std.specs.Prelude.{◌≡◌, ℕ, ◌<◌, ◌≤◌, ◌++◌, ◌⊎◌, Bool, true, false, cond, List, [], ◌∷◌, map, length, Option, Some, None}
use Rattle.mcs_base.specs.Listings.{IsAmong, IsListing}
use Rattle.mcs_system.specs.Plain.{System}
use Rattle.mcs_rows.specs.Local.{IsLocalTable}
use Rattle.mcs_table.specs.Tables.{TableData}
use Rattle.mcs_states.specs.Oracles.{OracleState, Lacks, with_journal}
use Rattle.mcs_states.specs.declared.halt.Halt.{Halt}
use Rattle.mcs_states.specs.declared.halt.Halt.TheVariants.{Spent, Missing, Memory}
use Rattle.mcs_node.specs.Rounds.{NodeState, Round, Stamp, Supplies, IsNewQuestion, ObeysRule, stamp}
use Rattle.mcs_node.specs.Configurations.{AwaitsGrant, new_node}
use Rattle.mcs_node.specs.Letters.{ContentData, LetterData, Supply, Stop, stamp_of}
use Rattle.mcs_node.specs.Known.{HasAsked, IsKnown, IsKnownAt, Knowledge}

pub record NodeData : Type 0 where
  -- the system of its plan
  pub plan : System
  pub context : ℕ
  -- the most questions of a level that may be asked
  pub budget : ℕ
  pub oracle : OracleState
  -- the greatest level at which it was done before the round
  pub before : Option ℕ
  -- the level of the round that it has begun
  pub level : Option ℕ
  -- what is said of it in this round
  pub state : NodeState
  -- the contexts that it supplies, ascending
  pub receivers : List ℕ
  -- the letters that it has put out and that were not handed out yet
  pub outbox : List LetterData
  -- the answers to all questions of the greatest level at which it was done, and what it may supply there
  pub known : Knowledge

-- the round of the level, as the node knows it
abbrev pub round_at : NodeData → ℕ → Round
round_at d level = record { system = d.plan; level = level; budget = d.budget; before = d.before }

-- ---- a new node
abbrev pub nothing_known : Knowledge
nothing_known = record { answers = []; supplies = [] }

-- nothing has happened to it
pub record IsNewNode (m : System) (i budget : ℕ) (o : OracleState) (d : NodeData) : Type 0 where
  pub receivers : IsListing (Supplies m i) (λ a b. a < b) d.receivers
  pub rest : d ≡ record { plan = m; context = i; budget = budget; oracle = o; before = None; level = None; state = new_node; receivers = d.receivers; outbox = []; known = nothing_known }

-- the oracle is one of context i of the system, and was asked nothing
abbrev pub IsFreshOracle : System → ℕ → OracleState → Type 0
IsFreshOracle m i o = (o.system ≡ m) × (o.context ≡ i) × (o.journal ≡ [])

-- ---- the begin of a round
-- the greatest level at which it was done
abbrev pub done_level : NodeData → Option ℕ
done_level d = cond d.state.done d.level d.before

-- the level is above that of each round begun
abbrev pub IsAbove : Option ℕ → ℕ → Type 0
IsAbove None level = Unit {0}
IsAbove (Some begun) level = begun < level

abbrev pub begun_node : NodeState
begun_node = record { begun = true; had = []; granted = None; put_out = []; done = false; halt = None; by_itself = false }

-- it has begun the round of the level, and what it put out before is dropped
abbrev pub begun_at : ℕ → NodeData → NodeData
begun_at level d = record d { before = done_level d; level = Some level; state = begun_node; outbox = [] }

-- ---- what it puts out
-- a stamp to each context that it supplies
abbrev pub stamps_to : ℕ → ℕ → Bool → List ℕ → List Stamp
stamps_to level i stop js = map (λ j. stamp level i j stop) js

-- a letter with this content to each of them
abbrev pub letters_to : System → ℕ → ℕ → ContentData → List ℕ → List LetterData
letters_to m level i content js = map (λ j. record { plan = m; level = level; from = i; to = j; content = content }) js

-- it has stopped in the round of the level: it puts out a stop in the place of each letter
abbrev pub stopped_with : ℕ → Halt → Bool → NodeData → NodeData
stopped_with level halt by_itself d = record d {
  state = record d.state { put_out = stamps_to level d.context true d.receivers; done = false; halt = Some halt; by_itself = by_itself };
  outbox = letters_to d.plan level d.context (Stop halt) d.receivers;
}

-- ---- a letter
-- the node waits for the letter: it is one of its plan and of the round begun, to this context, from one that supplies it, and no letter of this sender was had
pub record IsAwaited (l : LetterData) (d : NodeData) : Type 0 where
  pub plan : l.plan ≡ d.plan
  pub level : d.level ≡ Some l.level
  pub addressed : l.to ≡ d.context
  pub supplies : Supplies d.plan l.from d.context
  pub first : (x : Stamp) → IsAmong x d.state.had → ¬ (x.from ≡ l.from)

-- it has had the letter
abbrev pub with_had : LetterData → NodeData → NodeData
with_had l d = record d { state = record d.state { had = d.state.had ++ stamp_of l ∷ [] } }

-- it has had the letter: a stop stops it, unless it has stopped before
abbrev pub with_content : LetterData → ContentData → Option Halt → NodeData → NodeData
with_content l (Stop halt) None d = stopped_with l.level halt false (with_had l d)
with_content l content halt d = with_had l d

-- it has had the letter, or memory ran out when it had a supply
abbrev pub HasTaken : LetterData → NodeData → NodeData → Type 0
HasTaken l d e = (e ≡ with_content l l.content d.state.halt d)
    ⊎ ((states : List ℕ) × (l.content ≡ Supply states) × (d.state.halt ≡ None) × (e ≡ stopped_with l.level Memory true (with_had l d)))

-- ---- a grant
-- it has begun the round of a level, has had every supply, has not stopped, and was granted nothing
abbrev pub WaitsForGrant : NodeData → Type 0
WaitsForGrant d = (level : ℕ) × (d.level ≡ Some level) × AwaitsGrant (round_at d level) d.context d.state

-- it waits for its grant, and has so many new questions
pub record IsNeed (d : NodeData) (n : ℕ) : Type 0 where
  pub waits : WaitsForGrant d
  pub new : List ℕ
  pub listed : IsListing (IsNewQuestion (round_at d waits.0) d.context) (λ a b. a < b) new
  pub count : n ≡ length new

abbrev pub with_grant : ℕ → NodeData → NodeData
with_grant total d = record d { state = record d.state { granted = Some total } }

-- it asked the new questions, and is done: it has put out its supplies
pub record HasFinished (total level : ℕ) (d e : NodeData) : Type 0 where
  pub within : total ≤ d.budget
  pub known : IsKnown d.plan level d.context e.known
  pub asked : HasAsked d.plan d.context e.oracle e.known.answers
  pub new : List ℕ
  pub listed : IsListing (IsNewQuestion (round_at d level) d.context) (λ a b. a < b) new
  pub journal : e.oracle ≡ with_journal (d.oracle.journal ++ new) d.oracle
  pub rest : e ≡ record d {
    oracle = e.oracle;
    state = record d.state { granted = Some total; put_out = stamps_to level d.context false d.receivers; done = true };
    outbox = letters_to d.plan level d.context (Supply e.known.supplies) d.receivers;
    known = e.known;
  }

-- why it stopped while it was asked: it lacks the answer to a new question, or memory ran out
abbrev pub IsGrantHalt : NodeData → ℕ → Halt → Type 0
IsGrantHalt d level (Spent at drawn) = ⊥
IsGrantHalt d level (Missing context x) = (context ≡ d.context) × Lacks d.oracle x × IsNewQuestion (round_at d level) d.context x
IsGrantHalt d level Memory = Unit {0}

-- it stopped while it was asked; of the oracle nothing but the journal changed
pub record HasFailed (total level : ℕ) (d e : NodeData) : Type 0 where
  pub within : total ≤ d.budget
  pub halt : Halt
  pub cause : IsGrantHalt d level halt
  pub oracle : with_journal [] e.oracle ≡ with_journal [] d.oracle
  pub rest : e ≡ record (stopped_with level halt true (with_grant total d)) { oracle = e.oracle; known = e.known }

-- what a grant of the total makes of it: above the budget it stops, before anything is asked; else it is done, or stopped while it was asked
abbrev pub IsGranted : ℕ → NodeData → NodeData → Type 0
IsGranted total d e = (level : ℕ) × (d.level ≡ Some level)
    × (((d.budget < total) × (e ≡ stopped_with level (Spent level total) true (with_grant total d))) ⊎ (HasFinished total level d e ⊎ HasFailed total level d e))

-- ---- its local rows
-- it is done, and the table has exactly the local rows of its context at the level of the round
pub record IsLocalOf (d : NodeData) (t : TableData) : Type 0 where
  pub done : d.state.done ≡ true
  pub level : ℕ
  pub of_round : d.level ≡ Some level
  pub rows : IsLocalTable d.plan level d.context t

-- ---- the next letter
-- it hands out the letter, and nothing else of it changes
pub record HandsOut (d e : NodeData) (l : LetterData) : Type 0 where
  pub last : d.outbox ≡ e.outbox ++ l ∷ []
  pub rest : e ≡ record d { outbox = e.outbox }

-- ---- what holds of every node
pub record IsNodeData (d : NodeData) : Type 0 where
  pub in_range : d.context < length d.plan.contexts
  pub receivers : IsListing (Supplies d.plan d.context) (λ a b. a < b) d.receivers
  pub own : (d.oracle.system ≡ d.plan) × (d.oracle.context ≡ d.context)
  pub unbegun : d.level ≡ None → d.state ≡ new_node
  pub rule : (level : ℕ) → d.level ≡ Some level → ObeysRule (round_at d level) d.context d.state
  pub known : d.state.halt ≡ None → IsKnownAt d.plan (done_level d) d.context d.known
  pub asked : d.state.halt ≡ None → HasAsked d.plan d.context d.oracle d.known.answers
