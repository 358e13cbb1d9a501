-- What the structs of a round are seen as.
use Rattle.std.specs.Prelude.{List, map}
use Rattle.mcs_node.specs.Nodes.{NodeData}
use Rattle.mcs_crew.specs.declared.load.Load.{Load}
use Rattle.mcs_crew.specs.declared.load.Team.{Team}
use Rattle.mcs_crew.specs.Loads.{LoadData, emptied}
use Rattle.mcs_crew.specs.Teams.{TeamData}

module _ {O : Type 0} where
  abbrev pub team_of : Team O → TeamData
  team_of t = record { nodes = t.nodes.items; addresses = t.addresses.items; seat = t.seat }

  abbrev pub load_of : Load O → LoadData
  load_of l = record { team = team_of l.team; inbox = l.inbox; left = l.left }

  -- the nodes of each load
  abbrev pub nodes_in : List (Load O) → List (List NodeData)
  nodes_in loads = map (λ (l : Load O). l.team.nodes.items) loads

  -- the load but for its nodes
  abbrev pub without_nodes : Load O → LoadData
  without_nodes l = emptied (load_of l)
