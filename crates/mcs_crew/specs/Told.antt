-- What the trail of a round tells of the round's system: nothing of it speaks of nodes.
use Rattle.std.specs.Prelude.{◌≡◌, ℕ, ◌<◌, ◌%◌, false, List, Result, Ok, Err, Some, slice_get, map}
use Rattle.mcs_base.specs.Listings.{IsInventory}
use Rattle.mcs_system.specs.Plain.{System}
use Rattle.mcs_system.specs.Levels.{HasQuestions, IsCount}
use Rattle.mcs_states.specs.declared.halt.Halt.{Halt}
use Rattle.mcs_node.specs.Rounds.{Stamp, Supplies, stamp}
use Rattle.mcs_node.specs.Letters.{stamp_of}
use Rattle.mcs_node.specs.Nodes.{NodeData}
use Rattle.mcs_mesh.specs.Players.{HaveFinished}
use Rattle.mcs_draw.specs.Seats.{ClosedData}
use Rattle.mcs_wire.specs.Ends.{SettledData}
use Rattle.mcs_crew.specs.Trails.{AreOfGroups, TrailData}

-- a round of the level with this total has it as the number of all questions, and each node has finished it
abbrev pub HasEnded : System → ℕ → List NodeData → Result ℕ Halt → Type 0
HasEnded m level nodes (Ok total) = IsCount m level total × HaveFinished level nodes
HasEnded m level nodes (Err halt) = Unit {0}

-- the stamp is due at group g of so many: it is the supply of the level from a context that supplies one of the group, to this one
abbrev pub IsDueAt : System → ℕ → ℕ → ℕ → Stamp → Type 0
IsDueAt m level groups g x = (j : ℕ) × (i : ℕ) × Supplies m j i × (i % groups ≡ g) × (x ≡ stamp level j i false)

-- a round of the level that so many groups have done: the letters got at each have the stamps that are due there, each once, and the total is the number of all questions
pub record ShowsDone (m : System) (level groups : ℕ) (t : TrailData) : Type 0 where
  pub wires : AreOfGroups m groups t.wires
  pub got : (g : ℕ) (s : SettledData) → slice_get t.wires g ≡ Some s → IsInventory (IsDueAt m level groups g) (map stamp_of s.got)
  pub word : ClosedData
  pub word_is : t.word ≡ Some word
  pub total : IsCount m level word.total

-- a round of the level that so many groups have stopped: the total is above the budget, and the level has as many questions
pub record ShowsSpent (m : System) (level budget groups : ℕ) (t : TrailData) : Type 0 where
  pub wires : AreOfGroups m groups t.wires
  pub word : ClosedData
  pub word_is : t.word ≡ Some word
  pub beyond : budget < word.total
  pub questions : HasQuestions m level word.total
