-- What a replay of events tells: how many letters were put out, how many deliveries were ignored, how many events
-- were skipped, and how the round stands.
use Rattle.std.specs.Prelude.{◌≡◌, ◌↔◌, ◌⊎◌, ℕ, ◌+◌, ◌<◌, ◌≤◌, Bool, true, false, IsTrue, List, [], ◌∷◌, length, count_by, Option, Some, None, slice_get, is_some}
use Rattle.mcs_states.specs.declared.halt.Halt.{Halt}
use Rattle.mcs_states.specs.declared.halt.Halt.TheVariants.{Spent}
use Rattle.mcs_node.specs.declared.event.Event.{Event}
use Rattle.mcs_node.specs.declared.event.Event.TheVariants.{Begin, Grant, Deliver}
use Rattle.mcs_node.specs.Rounds.{Round, NodeState}
use Rattle.mcs_node.specs.Configurations.{Configuration, first_configuration, IsSound, IsQuiet, IsDone}
use Rattle.mcs_node.specs.Steps.{Outcome, Skipped, Ignored, Taken, Runs}
use Rattle.mcs_node.specs.Laws.{IsOnward, IsTrueHalt}
use Rattle.mcs_node.specs.Worked.{AreTwo, AreCalm, first_round}

-- what is told of a replay
pub record Replayed : Type 0 where
  -- how many letters were put out
  pub put_out : ℕ
  -- how many letters came to their addressee and were not taken
  pub ignored : ℕ
  -- how many events were not possible
  pub skipped : ℕ
  -- whether every node is done
  pub done : Bool
  -- the halt of the lowest node that has stopped by itself
  pub halt : Option Halt

-- ---- outcomes of a kind
abbrev pub is_skipped : Outcome → Bool
is_skipped Skipped = true
is_skipped Ignored = false
is_skipped Taken = false

abbrev pub is_ignored : Outcome → Bool
is_ignored Skipped = false
is_ignored Ignored = true
is_ignored Taken = false

abbrev pub is_taken : Outcome → Bool
is_taken Skipped = false
is_taken Ignored = false
is_taken Taken = true

-- ---- what is told
-- this is the halt of the lowest of the nodes that has stopped by itself: none where no node has
abbrev pub IsLowestHalt : List NodeState → Option Halt → Type 0
IsLowestHalt nodes None = (i : ℕ) (s : NodeState) → slice_get nodes i ≡ Some s → s.by_itself ≡ false
IsLowestHalt nodes (Some halt) = (i : ℕ) × (s : NodeState) × (slice_get nodes i ≡ Some s) × (s.by_itself ≡ true) × (s.halt ≡ Some halt)
    × ((j : ℕ) (t : NodeState) → j < i → slice_get nodes j ≡ Some t → t.by_itself ≡ false)

-- what is told of events that had these outcomes and left d
pub record AreTold (os : List Outcome) (d : Configuration) (told : Replayed) : Type 0 where
  pub put_out : told.put_out ≡ length d.letters
  pub ignored : told.ignored ≡ count_by is_ignored os
  pub skipped : told.skipped ≡ count_by is_skipped os
  pub done : IsTrue told.done ↔ IsDone d
  pub halt : IsLowestHalt d.nodes told.halt

-- what may be told of a replay of the events, from the configuration in which no node has begun
pub record IsReplay (r : Round) (es : List Event) (told : Replayed) : Type 0 where
  pub outcomes : List Outcome
  pub left : Configuration
  pub run : Runs r (first_configuration r.system) es outcomes left
  pub are_told : AreTold outcomes left told

-- ---- laws
-- each event is skipped, ignored or taken
abbrev pub OutcomesAddUp : Type 0
OutcomesAddUp = (r : Round) (c d : Configuration) (es : List Event) (os : List Outcome) → Runs r c es os d
    → length es ≡ count_by is_skipped os + count_by is_ignored os + count_by is_taken os

-- of what a run has left, one thing is told
abbrev pub OneThingIsTold : Type 0
OneThingIsTold = (r : Round) (d : Configuration) (os : List Outcome) → IsSound r d
    → (told : Replayed) × AreTold os d told × ((other : Replayed) → AreTold os d other → other ≡ told)

-- any events have a replay
abbrev pub EventsHaveReplays : Type 0
EventsHaveReplays = (r : Round) (es : List Event) → (told : Replayed) × IsReplay r es told

-- where nothing is left to happen, a replay tells that all nodes are done, or of a halt, and not of both
abbrev pub QuietReplaysEnd : Type 0
QuietReplaysEnd = (r : Round) (es : List Event) (told : Replayed) (replay : IsReplay r es told) → IsQuiet r replay.left
    → ((told.done ≡ true) × (told.halt ≡ None)) ⊎ ((told.done ≡ false) × (is_some told.halt ≡ true))

-- the halt that a replay tells is true of the round
abbrev pub ReplaysTellTruth : Type 0
ReplaysTellTruth = (r : Round) (es : List Event) (told : Replayed) (halt : Halt) → IsOnward r → IsReplay r es told → told.halt ≡ Some halt → IsTrueHalt r halt

-- ---- worked replays of two contexts, of which the first supplies the second
-- this may be told of the events, and nothing else where no answer is missing and memory does not run out
pub record TellsAlone (r : Round) (es : List Event) (told : Replayed) : Type 0 where
  pub may : (replay : IsReplay r es told) × AreCalm replay.left
  pub alone : (other : Replayed) (replay : IsReplay r es other) → AreCalm replay.left → other ≡ told

-- both begin, the first is granted its need and its supply comes twice: one letter is put out, and one delivery
-- ignored; once the second is granted its need too, all are done
abbrev pub TurnsAreTold : Type 0
TurnsAreTold = (r : Round) (base first second : ℕ) → AreTwo r base first second → base + first + second ≤ r.budget
    → TellsAlone r (Begin 0 ∷ Begin 1 ∷ Grant 0 ∷ Deliver 0 ∷ Deliver 0 ∷ [])
    (record { put_out = 1; ignored = 1; skipped = 0; done = false; halt = None })
    × TellsAlone r (Begin 0 ∷ Begin 1 ∷ Grant 0 ∷ Deliver 0 ∷ Deliver 0 ∷ Grant 1 ∷ [])
    (record { put_out = 1; ignored = 1; skipped = 0; done = true; halt = None })

-- a grant before the node has begun, a second beginning, and the delivery of a letter that was not put out:
-- three are skipped
abbrev pub SkipsAreTold : Type 0
SkipsAreTold = (r : Round) (base first second : ℕ) → AreTwo r base first second
    → TellsAlone r (Grant 0 ∷ Begin 0 ∷ Begin 0 ∷ Deliver 0 ∷ [])
    (record { put_out = 0; ignored = 0; skipped = 3; done = false; halt = None })

-- the budget allows the need of the first, and not that of the second on top: the second stops
abbrev pub SpentIsTold : Type 0
SpentIsTold = (r : Round) (base first second : ℕ) → AreTwo r base first second → base + first ≤ r.budget → r.budget < base + first + second
    → TellsAlone r (Begin 0 ∷ Begin 1 ∷ Grant 0 ∷ Deliver 0 ∷ Grant 1 ∷ [])
    (record { put_out = 1; ignored = 0; skipped = 0; done = false; halt = Some (Spent r.level (base + first + second)) })

-- in the example each context needs one question
abbrev pub ExampleNeedsOneEach : Type 0
ExampleNeedsOneEach = (budget : ℕ) → AreTwo (first_round budget) 0 1 1

-- so within a budget of one it stops at level 0, where two are drawn
abbrev pub ExampleIsSpent : Type 0
ExampleIsSpent = TellsAlone (first_round 1) (Begin 0 ∷ Begin 1 ∷ Grant 0 ∷ Deliver 0 ∷ Grant 1 ∷ [])
    (record { put_out = 1; ignored = 0; skipped = 0; done = false; halt = Some (Spent 0 2) })
