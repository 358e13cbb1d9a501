-- What may go to another thread: seats, and nodes, teams and loads of an oracle that may. What threads may share: a word, and the number of those at work.
use denote.RattleType.{RattleType}
use denote.Param.Send.{AllSend, IsSend, IsSync, recorded_send, sendable, struct_send, view_send}
use denote.Struct.Declared.{shape}
use denote.Struct.Struct.{Struct}
use denote.Struct.Tuple.{TupleAt, type_at}
use mathlib.Core.List.{List, [], ◌∷◌}
use Prim.Native.Nat.{ℕ}
use Rattle.std.proofs.Crossing.{crosses}
use Rattle.std.specs.contracts.sync.atomic.AtomicBool as flag
use Rattle.atomic_table.proofs.owned.Table.TheSendSync as table
use Rattle.atomic_table.proofs.shared.Seat.TheSendSync as token
use Rattle.atomic_table.proofs.shared.Shared.TheSendSync as shared
use Rattle.mcs_states.specs.declared.oracle.Oracle.{Ghosts}
use Rattle.mcs_wire.proofs.Sending.{plan_send, plan_sync, address_send, inbox_send}
use Rattle.mcs_draw.specs.contracts.seat.Seat as seat
use Rattle.mcs_draw.specs.contracts.draw.Draw as draw
use Rattle.mcs_node.specs.contracts.round.InRound as in_round
use Rattle.mcs_node.specs.contracts.node.Node as node
use Rattle.mcs_node.specs.contracts.node.Node.TheInside as inside
use Rattle.mcs_crew.specs.contracts.load.Load as load
use Rattle.mcs_crew.specs.contracts.load.Team as team
use Rattle.mcs_crew.specs.contracts.workforce.Workforce as workforce

ruleset word = (
  table.the_field_send,
  table.the_send,
  table.the_field_sync,
  table.the_sync,
  token.the_send,
  shared.the_send,
  shared.the_sync,
)

pub seat_send : IsSend seat.the_row
seat_send = search (word, crosses, sendable) depth 60 fits 20000

pub draw_sync : IsSync draw.the_row
draw_sync = search (word, crosses, sendable) depth 60 fits 20000

pub flag_sync : IsSync flag.the_row
flag_sync = search (crosses, sendable) depth 60 fits 20000

pub workforce_sync : IsSync workforce.the_row
workforce_sync = search (crosses, sendable) depth 60 fits 20000

in_round_send : IsSend in_round.the_row
in_round_send = search (plan_send, plan_sync, crosses, sendable) depth 60 fits 20000

module _ (O : RattleType) (k : Ghosts O.Denot) (send : IsSend O) where
  -- the fields of a node, in order
  in_node_send : AllSend (shape (inside.the_type O k)).fields
  in_node_send = (
    search (plan_send, plan_sync, crosses, sendable) depth 60 fits 20000,
    (
      search sendable depth 60 fits 20000,
      (
        search sendable depth 60 fits 20000,
        (
          search (send, crosses, sendable) depth 60 fits 20000,
          (
            search (crosses, sendable) depth 60 fits 20000,
            (
              search (crosses, sendable) depth 60 fits 20000,
              (search (crosses, sendable) depth 60 fits 20000, (search (in_round_send, crosses, sendable) depth 60 fits 20000, tt)),
            ),
          ),
        ),
      ),
    ),
  )

  pub node_send : IsSend (node.the_row O k)
  node_send = view_send (inside.the_row O k) _ _ _ _ (recorded_send (inside.the_field O k).row _ _ (inside.the_type O k).to_one (struct_send (shape (inside.the_type O k)) in_node_send))

  in_team_send : AllSend (shape (team.the_type O k)).fields
  in_team_send = (
    search (node_send, crosses, sendable) depth 60 fits 20000,
    (search (address_send, crosses, sendable) depth 60 fits 20000, (search (seat_send, crosses, sendable) depth 60 fits 20000, tt)),
  )

  in_load_send : AllSend (shape (load.the_type O k)).fields
  in_load_send = (
    struct_send (shape (team.the_type O k)) in_team_send,
    (search (inbox_send, crosses, sendable) depth 60 fits 20000, (search sendable depth 60 fits 20000, (search sendable depth 60 fits 20000, tt))),
  )

  pub load_send : IsSend (load.the_row O k)
  load_send = recorded_send (load.the_field O k).row _ _ (load.the_type O k).to_one (struct_send (shape (load.the_type O k)) in_load_send)

-- what a closure has captured, seven values of types that may go to another thread
pub seven_send : (name : List ℕ) (A B C D E F G : RattleType) → IsSend A → IsSend B → IsSend C → IsSend D → IsSend E → IsSend F → IsSend G → IsSend (TupleAt name (A ∷ B ∷ C ∷ D ∷ E ∷ F ∷ G ∷ []))
seven_send name A B C D E F G a b c d e f g =
    let T = type_at name (A ∷ B ∷ C ∷ D ∷ E ∷ F ∷ G ∷ []) in
    recorded_send (Struct (shape T)) T.D T.to T.to_one (struct_send (shape T) (a, (b, (c, (d, (e, (f, (g, tt))))))))
