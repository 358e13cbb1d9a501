-- Replays of events over the nodes of all contexts: what an event makes of them, and what is told in the end.
use Rattle.std.specs.Prelude.{◌≡◌, ◌↔◌, ◌⊎◌, ℕ, ◌+◌, ◌<◌, ◌++◌, true, false, IsTrue, List, [], length, Option, Some, None, slice_get}
use Rattle.mcs_system.specs.Plain.{System}
use Rattle.mcs_states.specs.declared.halt.Halt.{Halt}
use Rattle.mcs_node.specs.declared.event.Event.{Event}
use Rattle.mcs_node.specs.Rounds.{Round}
use Rattle.mcs_node.specs.Configurations.{Configuration, new_node}
use Rattle.mcs_node.specs.Letters.{LetterData}
use Rattle.mcs_node.specs.Nodes.{HasTaken, IsAwaited, IsGranted, IsNeed, NodeData, WaitsForGrant, begun_at}
use Rattle.mcs_node.specs.Steps.{Outcome, Skipped, Ignored, Taken, Step}
use Rattle.mcs_node.specs.Replay.{IsReplay, Replayed}
use Rattle.mcs_node.specs.Playing.{HaveStates, IsInPlay}
use Rattle.mcs_mesh.specs.Rounds.{round_of}
use Rattle.mcs_mesh.specs.declared.replay.Counts.{Counts}
use Rattle.mcs_mesh.specs.declared.replay.Outcome as came
use Rattle.mcs_mesh.specs.declared.replay.Replay as code

-- ---- what is told
abbrev pub outcome_of : came.Outcome → Outcome
outcome_of came.TheVariants.Skipped = Skipped
outcome_of came.TheVariants.Ignored = Ignored
outcome_of came.TheVariants.Taken = Taken

abbrev pub replay_told : code.Replay → Replayed
replay_told told = record { put_out = told.put_out; ignored = told.ignored; skipped = told.skipped; done = told.done; halt = told.stopped }

-- the round of the level before which no level was done
abbrev pub only_round : System → ℕ → ℕ → Round
only_round m level budget = round_of m level budget None

-- what is told may be told of a replay of the events, and the nodes are left with its states
abbrev pub LeavesReplay : System → ℕ → ℕ → List Event → List NodeData → code.Replay → Type 0
LeavesReplay m budget level events nodes told = (replay : IsReplay (only_round m level budget) events (replay_told told)) × HaveStates (only_round m level budget) nodes replay.left.nodes

-- ---- the nodes of the round
-- nothing has happened to the node
abbrev pub IsUntouched : NodeData → Type 0
IsUntouched d = (d.level ≡ None) × (d.state ≡ new_node)

-- it has begun the round of the level, or nothing has happened to it
abbrev pub IsOfRound : ℕ → NodeData → Type 0
IsOfRound level d = (d.level ≡ Some level) ⊎ IsUntouched d

abbrev pub AreOfRound : ℕ → List NodeData → Type 0
AreOfRound level nodes = (i : ℕ) (d : NodeData) → slice_get nodes i ≡ Some d → IsOfRound level d

-- ---- what an event makes of a node
-- it begins the round, unless it has begun it
abbrev pub Begins : ℕ → NodeData → NodeData → Outcome → Type 0
Begins level d e Skipped = (d.level ≡ Some level) × (e ≡ d)
Begins level d e Ignored = ⊥
Begins level d e Taken = IsUntouched d × (e ≡ begun_at level d)

-- what it has put out was handed out, to the end of the letters
pub record IsHandedOut (d e : NodeData) (before after : List LetterData) : Type 0 where
  pub node : e ≡ record d { outbox = [] }
  pub letters : after ≡ before ++ d.outbox

-- it is granted its need on top of the total, where it waits for its grant, and what it puts out is handed out
abbrev pub Grants : NodeData → NodeData → List LetterData → List LetterData → ℕ → ℕ → Outcome → Type 0
Grants d e before after total sum Skipped = (¬ WaitsForGrant d) × (e ≡ d) × (after ≡ before) × (sum ≡ total)
Grants d e before after total sum Ignored = ⊥
Grants d e before after total sum Taken = (need : ℕ) × (granted : NodeData) × IsNeed d need × (sum ≡ total + need) × IsGranted sum d granted × IsHandedOut granted e before after

-- it takes the letter, and what it puts out is handed out; or it ignores the letter
abbrev pub Receives : LetterData → NodeData → NodeData → List LetterData → List LetterData → Outcome → Type 0
Receives l d e before after Skipped = ⊥
Receives l d e before after Ignored = (¬ IsAwaited l d) × (e ≡ d) × (after ≡ before)
Receives l d e before after Taken = IsAwaited l d × (taken : NodeData) × HasTaken l d taken × IsHandedOut taken e before after

-- ---- what an event makes of all
-- the nodes, all letters that they have put out, in order, and the total that they were granted
pub record Course : Type 0 where
  pub nodes : List NodeData
  pub letters : List LetterData
  pub total : ℕ

abbrev pub course : List NodeData → List LetterData → ℕ → Course
course nodes letters total = record { nodes = nodes; letters = letters; total = total }

-- whatever configuration the first make, the event has this outcome and leaves what the second make
abbrev pub IsStepOf : ℕ → Event → Outcome → Course → Course → Type 0
IsStepOf level event outcome x y = (m : System) (budget : ℕ) (c : Configuration) → IsInPlay (only_round m level budget) x.nodes x.letters x.total c
    → (next : Configuration) × Step (only_round m level budget) c event outcome next × IsInPlay (only_round m level budget) y.nodes y.letters y.total next

-- nodes of the round stay so, and the event is a step of it
abbrev pub GoesOn : ℕ → Event → Outcome → Course → Course → Type 0
GoesOn level event outcome x y = AreOfRound level x.nodes → AreOfRound level y.nodes × IsStepOf level event outcome x y

-- ---- what is told of the nodes
abbrev pub AreAllDone : List NodeData → Type 0
AreAllDone nodes = (i : ℕ) (d : NodeData) → slice_get nodes i ≡ Some d → d.state.done ≡ true

-- none of the first n has stopped by itself
abbrev pub IsNoneStopped : ℕ → List NodeData → Type 0
IsNoneStopped n nodes = (i : ℕ) (d : NodeData) → i < n → slice_get nodes i ≡ Some d → d.state.by_itself ≡ false

-- it is the halt of the lowest node that has stopped by itself: none where no node has
pub data TellsLowest (nodes : List NodeData) (halt : Option Halt) : Type 0 where
  no_node : IsNoneStopped (length nodes) nodes → halt ≡ None → TellsLowest nodes halt
  lowest : (i : ℕ) (d : NodeData) → slice_get nodes i ≡ Some d → d.state.by_itself ≡ true → IsNoneStopped i nodes → halt ≡ d.state.halt → TellsLowest nodes halt

-- it tells of the nodes and the letters, with these counts
pub record AreToldOf (nodes : List NodeData) (letters : List LetterData) (counts : Counts) (told : code.Replay) : Type 0 where
  pub put_out : told.put_out ≡ length letters
  pub ignored : told.ignored ≡ counts.ignored
  pub skipped : told.skipped ≡ counts.skipped
  pub done : IsTrue told.done ↔ AreAllDone nodes
  pub stopped : TellsLowest nodes told.stopped
