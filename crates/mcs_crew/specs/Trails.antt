-- What a round that threads played leaves to be seen: its wires and its word.
use Rattle.std.specs.Prelude.{◌≡◌, ℕ, true, ◌<◌, ◌≤◌, ◌⊎◌, List, [], length, Option, Some, None, Result, Ok, Err, min, slice_get, map}
use Rattle.mcs_base.specs.Listings.{IsAmong}
use Rattle.mcs_system.specs.Plain.{System}
use Rattle.mcs_system.specs.Levels.{HasQuestions}
use Rattle.mcs_states.specs.declared.halt.Halt.{Halt}
use Rattle.mcs_states.specs.declared.halt.Halt.TheVariants.{Spent, Missing, Memory}
use Rattle.mcs_node.specs.Rounds.{NodeState, Stamp}
use Rattle.mcs_node.specs.Letters.{LetterData, stamp_of}
use Rattle.mcs_node.specs.Nodes.{IsNodeData, NodeData}
use Rattle.mcs_node.specs.Replay.{IsLowestHalt}
use Rattle.mcs_draw.specs.Seats.{ClosedData}
use Rattle.mcs_wire.specs.Ends.{SettledData}
use Rattle.mcs_base.specs.Groups.{members}
use Rattle.mcs_crew.specs.Weights.{had_weight, stamps_weight}
use Rattle.mcs_crew.specs.declared.trail.Trail as code

pub record TrailData : Type 0 where
  -- for each group, in order, the wire of its inbox
  pub wires : List SettledData
  -- the word that totals were drawn from
  pub word : Option ClosedData

abbrev pub trail_of : code.Trail → TrailData
trail_of t = record { wires = t.wires.items; word = t.word }

-- nothing is to be seen
pub record IsNoTrail (t : TrailData) : Type 0 where
  pub wires : t.wires ≡ []
  pub word : t.word ≡ None

-- a wire for each of so many groups, of the plan
pub record AreOfGroups (m : System) (groups : ℕ) (wires : List SettledData) : Type 0 where
  pub one_each : length wires ≡ groups
  pub plan : (g : ℕ) (s : SettledData) → slice_get wires g ≡ Some s → s.plan ≡ m

-- a node has put out the stamp of the letter
abbrev pub WasPutOut : List NodeData → LetterData → Type 0
WasPutOut nodes l = (i : ℕ) × (d : NodeData) × (slice_get nodes i ≡ Some d) × IsAmong (stamp_of l) d.state.put_out

-- as a bag, the letters got have the stamps that the nodes of group g have had; each letter sent was put out by a node
pub record IsWireOf (groups g : ℕ) (nodes : List NodeData) (s : SettledData) : Type 0 where
  pub got : (weight : Stamp → ℕ) → stamps_weight weight s.got ≡ had_weight weight (members groups g 0 nodes)
  pub sent : (l : LetterData) → IsAmong l s.sent → WasPutOut nodes l

-- a halt tells of no more questions than were drawn
abbrev pub IsWithinDrawn : Halt → ℕ → Type 0
IsWithinDrawn (Spent level drawn) total = drawn ≤ total
IsWithinDrawn (Missing context x) total = Unit {0}
IsWithinDrawn Memory total = Unit {0}

-- a halt of which there is nothing to be seen
abbrev pub IsMemory : Halt → Type 0
IsMemory (Spent level drawn) = ⊥
IsMemory (Missing context x) = ⊥
IsMemory Memory = Unit {0}

-- what is to be seen of a round with this total
pub record IsShownDone (m : System) (groups : ℕ) (nodes : List NodeData) (total : ℕ) (t : TrailData) : Type 0 where
  pub wires : AreOfGroups m groups t.wires
  pub each : (g : ℕ) (s : SettledData) → slice_get t.wires g ≡ Some s → IsWireOf groups g nodes s
  pub word : ClosedData
  pub word_is : t.word ≡ Some word
  pub total_is : word.total ≡ total

-- what is to be seen of a round that stopped at the level with this halt
pub record IsShownHalt (m : System) (level groups : ℕ) (halt : Halt) (t : TrailData) : Type 0 where
  pub no_memory : ¬ IsMemory halt
  pub wires : AreOfGroups m groups t.wires
  pub word : ClosedData
  pub word_is : t.word ≡ Some word
  pub questions : HasQuestions m level word.total
  pub within : IsWithinDrawn halt word.total

-- what is to be seen of a round that threads have played, by how it ended: nothing after want of memory
abbrev pub IsShown : System → ℕ → ℕ → List NodeData → Result ℕ Halt → TrailData → Type 0
IsShown m level groups nodes (Ok total) t = IsShownDone m groups nodes total t
IsShown m level groups nodes (Err halt) t = (IsMemory halt × IsNoTrail t) ⊎ IsShownHalt m level groups halt t

-- what is shown of these wires and this word once a round has ended so
abbrev pub IsTrailAfter : Result ℕ Halt → List SettledData → ClosedData → TrailData → Type 0
IsTrailAfter (Ok total) wires word t = (t.wires ≡ wires) × (t.word ≡ Some word)
IsTrailAfter (Err (Spent level drawn)) wires word t = (t.wires ≡ wires) × (t.word ≡ Some word)
IsTrailAfter (Err (Missing context x)) wires word t = (t.wires ≡ wires) × (t.word ≡ Some word)
IsTrailAfter (Err Memory) wires word t = IsNoTrail t

-- so many groups there are: no more than workers, and no more than contexts
abbrev pub group_count : ℕ → ℕ → ℕ
group_count workers contexts = min workers contexts

-- the trail of a round: with fewer than two groups there is nothing to be seen
pub data IsTrail (m : System) (level workers : ℕ) (nodes : List NodeData) (total : Result ℕ Halt) (t : TrailData) : Type 0 where
  alone : group_count workers (length nodes) < 2 → IsNoTrail t → IsTrail m level workers nodes total t
  shared : 2 ≤ group_count workers (length nodes) → IsShown m level (group_count workers (length nodes)) nodes total t → IsTrail m level workers nodes total t

-- ---- halts
abbrev pub states_of : List NodeData → List NodeState
states_of nodes = map (λ (d : NodeData). d.state) nodes

-- the halt that a round by threads tells: that of the lowest of the nodes that stopped by itself, or want of memory
abbrev pub IsToldHalt : List NodeData → Halt → Type 0
IsToldHalt nodes halt = IsMemory halt ⊎ IsLowestHalt (states_of nodes) (Some halt)

-- the node is done
abbrev pub IsDoneNode : NodeData → Type 0
IsDoneNode d = IsNodeData d × (d.state.done ≡ true)

-- one of the nodes stopped by itself with this halt
abbrev pub IsHaltOf : List NodeData → Halt → Type 0
IsHaltOf nodes halt = (i : ℕ) × (d : NodeData) × (slice_get nodes i ≡ Some d) × IsNodeData d × (d.state.by_itself ≡ true) × (d.state.halt ≡ Some halt)
