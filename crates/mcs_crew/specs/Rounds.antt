-- What groups leave of a round once all loads are back.
use Rattle.std.specs.Prelude.{◌≡◌, ℕ, ◌≤◌, true, List, Option, Some, Result, IfErr, slice_get}
use Rattle.mcs_base.specs.Listings.{IsAmong}
use Rattle.mcs_system.specs.Plain.{System}
use Rattle.mcs_states.specs.Oracles.{Lacks}
use Rattle.mcs_states.specs.declared.halt.Halt.{Halt}
use Rattle.mcs_states.specs.declared.halt.Halt.TheVariants.{Missing}
use Rattle.mcs_node.specs.Rounds.{Finishes, Stamp}
use Rattle.mcs_node.specs.Steps.{IsTotal}
use Rattle.mcs_node.specs.Letters.{LetterData}
use Rattle.mcs_node.specs.Nodes.{NodeData, round_at}
use Rattle.mcs_mesh.specs.Players.{IsPlayed}
use Rattle.mcs_mesh.specs.Rounds.{round_of}
use Rattle.mcs_draw.specs.Seats.{ClosedData}
use Rattle.mcs_wire.specs.Ends.{SettledData}
use Rattle.mcs_base.specs.Groups.{members}
use Rattle.mcs_crew.specs.Teams.{HasGrant}
use Rattle.mcs_crew.specs.Trails.{AreOfGroups, IsShown, IsToldHalt, TrailData, WasPutOut, states_of}
use Rattle.mcs_crew.specs.Weights.{had_weight, stamps_weight}

-- the nodes have played the round by so many groups, after so many questions were asked: the word ended with the total of all that were granted one, none of them was granted more, and the letters are as a trail shows them
pub record HaveBeenPlayed (m : System) (level budget asked : ℕ) (before : Option ℕ) (groups : ℕ) (nodes : List NodeData) (wires : List SettledData) (word : ClosedData) : Type 0 where
  pub round_is : (i : ℕ) (d : NodeData) → slice_get nodes i ≡ Some d → round_at d level ≡ round_of m level budget before
  pub level_is : (i : ℕ) (d : NodeData) → slice_get nodes i ≡ Some d → d.level ≡ Some level
  pub lacks : (i : ℕ) (d : NodeData) (context x : ℕ) → slice_get nodes i ≡ Some d → d.state.halt ≡ Some (Missing context x) → d.state.by_itself ≡ true → Lacks d.oracle x
  pub count : IsTotal (round_of m level budget before) (states_of nodes) word.total
  pub granted : (total : ℕ) → HasGrant nodes total → total ≤ word.total
  pub top : (bound : ℕ) → asked ≤ bound → ((total : ℕ) → HasGrant nodes total → total ≤ bound) → word.total ≤ bound
  pub wires_are : AreOfGroups m groups wires
  pub got : ((i : ℕ) (d : NodeData) → slice_get nodes i ≡ Some d → Finishes (round_of m level budget before) i d.state)
      → (g : ℕ) (s : SettledData) → slice_get wires g ≡ Some s → (weight : Stamp → ℕ) → stamps_weight weight s.got ≡ had_weight weight (members groups g 0 nodes)
  pub sent : (g : ℕ) (s : SettledData) (l : LetterData) → slice_get wires g ≡ Some s → IsAmong l s.sent → WasPutOut nodes l

-- what is told of a round that groups have played over these nodes
pub record IsTold (m : System) (level budget groups : ℕ) (first nodes : List NodeData) (total : Result ℕ Halt) (trail : TrailData) : Type 0 where
  pub played : IsPlayed m level budget first nodes total
  pub halt : IfErr total (IsToldHalt nodes)
  pub shown : IsShown m level groups nodes total trail
