-- What workers own for a round: teams with their inboxes, and what comes of them.
use Rattle.std.specs.Prelude.{◌≡◌, ℕ, ◌+◌, List, [], length}
use Rattle.std.specs.List.{sum_by}
use Rattle.mcs_system.specs.Plain.{System}
use Rattle.mcs_system.specs.Imports.{IsImportOrder, supplied}
use Rattle.mcs_node.specs.Rounds.{Round, Stamp}
use Rattle.mcs_node.specs.Letters.{LetterData}
use Rattle.mcs_node.specs.Nodes.{NodeData}
use Rattle.mcs_wire.specs.Ends.{InboxData}
use Rattle.mcs_crew.specs.Weights.{had_weight, stamps_weight}
use Rattle.mcs_crew.specs.Teams.{GoesOn, IsTeam, TeamData}

pub record LoadData : Type 0 where
  pub team : TeamData
  pub inbox : InboxData
  -- how many letters its nodes still await
  pub left : ℕ

-- the load without its nodes
abbrev pub emptied : LoadData → LoadData
emptied l = record { team = record { nodes = []; addresses = l.team.addresses; seat = l.team.seat }; inbox = l.inbox; left = l.left }

-- how many letters the nodes await in a round: one from each context that supplies one of them
abbrev pub all_awaited : System → List ℕ → List NodeData → ℕ
all_awaited m order nodes = sum_by (λ (d : NodeData). length (supplied m order d.context)) nodes

-- the load is one of the round. As bags, the letters that its inbox has taken are those that its nodes have had, and those that they ignored. With those that are left they are as many as the nodes await
pub record IsAtWork (r : Round) (asked : ℕ) (load : LoadData) : Type 0 where
  pub team : IsTeam r asked load.team
  pub plan : load.inbox.wire.plan ≡ r.system
  pub ignored : List LetterData
  pub balance : (weight : Stamp → ℕ) → stamps_weight weight load.inbox.taken ≡ had_weight weight load.team.nodes + stamps_weight weight ignored
  pub counted : (order : List ℕ) → IsImportOrder r.system order → length load.inbox.taken + load.left ≡ all_awaited r.system order load.team.nodes

abbrev pub CanWork : LoadData → Type 0
CanWork load = (r : Round) × (asked : ℕ) × IsAtWork r asked load

-- what a worker does: `load` is what came of `was`, whether it was worked as a whole, in part, or not at all
pub record Worked (was load : LoadData) : Type 0 where
  pub team : GoesOn was.team load.team
  pub wire : load.inbox.wire ≡ was.inbox.wire
  pub at_work : (r : Round) (asked : ℕ) → IsAtWork r asked was → IsAtWork r asked load
