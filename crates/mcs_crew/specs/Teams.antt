-- The nodes of a group at work: what holds of each, and of all with the letters that they have sent and the totals that they have drawn.
use Rattle.std.specs.Prelude.{◌≡◌, ℕ, ◌+◌, ◌*◌, ◌<◌, ◌≤◌, ◌⊎◌, true, List, [], map, length, Some, None, is_some, slice_get}
use Rattle.std.specs.List.{sum_by}
use Rattle.mcs_base.specs.Listings.{IsAmong}
use Rattle.mcs_states.specs.Oracles.{Lacks}
use Rattle.mcs_states.specs.declared.halt.Halt.TheVariants.{Missing}
use Rattle.mcs_node.specs.Rounds.{Round, Stamp, Supplies}
use Rattle.mcs_node.specs.Steps.{IsNeedOf}
use Rattle.mcs_node.specs.Letters.{LetterData, stamp_of}
use Rattle.mcs_node.specs.Nodes.{IsGranted, IsNeed, NodeData, round_at}
use Rattle.mcs_mesh.specs.Players.{as_new}
use Rattle.mcs_draw.specs.declared.account.Account.{Account}
use Rattle.mcs_draw.specs.Budget.{after_draw}
use Rattle.mcs_draw.specs.Seats.{SeatData}
use Rattle.mcs_wire.specs.Ends.{AddressData}
use Rattle.mcs_crew.specs.Weights.{by_stamp, granted_need, had_weight, put_out_weight, sent_weight, stamps_weight}

pub record TeamData : Type 0 where
  -- the nodes of the group, from its last context to its first
  pub nodes : List NodeData
  -- for each group, in order, an address of its inbox
  pub addresses : List AddressData
  pub seat : SeatData

-- ---- one node
-- the node has begun the round, and all letters that it has put out were handed out
pub record IsAtPlay (r : Round) (d : NodeData) : Type 0 where
  pub round_is : round_at d r.level ≡ r
  pub level_is : d.level ≡ Some r.level
  pub in_range : d.context < length r.system.contexts
  pub handed_out : d.outbox ≡ []
  -- it supplies few contexts, and has put out few letters; none where it has neither a total nor a halt
  pub few : length d.receivers ≤ 64
  pub short : length d.state.put_out ≤ 64
  pub quiet : d.state.granted ≡ None → d.state.halt ≡ None → d.state.put_out ≡ []
  -- if it was granted a total, it has had a letter of each context that supplies it
  pub full : is_some d.state.granted ≡ true → (j : ℕ) → Supplies r.system j d.context → (x : Stamp) × IsAmong x d.state.had × (x.from ≡ j)
  -- if it stopped by itself since an answer is missing, its oracle lacks this
  pub lacks : (context x : ℕ) → d.state.halt ≡ Some (Missing context x) → d.state.by_itself ≡ true → Lacks d.oracle x

-- e is what came of d: it is at play once its letters are handed out, and these are the ones that it has put out since
pub record CameOf (r : Round) (d e : NodeData) : Type 0 where
  pub at_play : IsAtPlay r (record e { outbox = [] })
  pub same : as_new e ≡ as_new d
  pub put_out : (weight : Stamp → ℕ) → sum_by weight e.state.put_out ≡ sum_by weight d.state.put_out + stamps_weight weight e.outbox
  pub named : (l : LetterData) → IsAmong l e.outbox → l.plan ≡ r.system
  pub few : length e.outbox ≤ 64

-- the node was granted its need by a draw, or did not wait for it
pub data IsServed (d e : NodeData) (a b : Account) : Type 0 where
  waits_not : e ≡ d → b ≡ a → IsServed d e a b
  is_granted : (need total : ℕ) → IsNeed d need → IsGranted total d e → b ≡ after_draw need total a → a.top + need ≤ total → IsServed d e a b

-- the account changed with the node from a to b: by its need, if it was newly granted a total, which is then the top
pub record HasDrawn (r : Round) (d e : NodeData) (a b : Account) : Type 0 where
  pub needs : (need : ℕ → ℕ) → ((i : ℕ) → i < length r.system.contexts → IsNeedOf r i (need i)) → b.drawn + granted_need need d ≡ a.drawn + granted_need need e
  pub whole : b.left + b.drawn ≡ a.left + a.drawn
  pub rises : a.top ≤ b.top
  pub kept : (total : ℕ) → d.state.granted ≡ Some total → e.state.granted ≡ Some total
  pub below : (total : ℕ) → e.state.granted ≡ Some total → (total ≤ b.top) ⊎ (d.state.granted ≡ Some total)
  pub top : (bound : ℕ) → a.top ≤ bound → ((total : ℕ) → e.state.granted ≡ Some total → total ≤ bound) → b.top ≤ bound

-- ---- letters that are sent
-- an address but for the letters that it has sent
abbrev pub unsent : AddressData → AddressData
unsent a = record { wire = a.wire; parts = a.parts; sent = [] }

-- the letters were sent by these addresses, each by one of them, and nothing else of these changed
pub record HaveSent (letters : List LetterData) (before after : List AddressData) : Type 0 where
  pub same : map unsent after ≡ map unsent before
  pub sent : (weight : LetterData → ℕ) → sent_weight weight after ≡ sent_weight weight before + sum_by weight letters

-- each of the letters names the plan of each of the wires
abbrev pub AreNamed : List LetterData → List AddressData → Type 0
AreNamed letters addresses = (g : ℕ) (a : AddressData) → slice_get addresses g ≡ Some a → (l : LetterData) → IsAmong l letters → l.plan ≡ a.wire.plan

-- ---- all nodes of a group
-- a node of the group was granted this total
abbrev pub HasGrant : List NodeData → ℕ → Type 0
HasGrant nodes total = (p : ℕ) × (d : NodeData) × (slice_get nodes p ≡ Some d) × (d.state.granted ≡ Some total)

-- so many questions a seat may draw for each of at most 64 nodes
abbrev pub seat_room : ℕ
seat_room = 64 * 4096

-- the nodes are at play; as bags, the letters sent are the stamps put out; what the seat has drawn are the needs of the nodes that were granted a total, each of which is at most its top, which is one of them or the number of the questions asked before
pub record IsTeam (r : Round) (asked : ℕ) (t : TeamData) : Type 0 where
  pub nodes : (p : ℕ) (d : NodeData) → slice_get t.nodes p ≡ Some d → IsAtPlay r d
  pub few : length t.nodes ≤ 64
  pub small : (i need : ℕ) → i < length r.system.contexts → IsNeedOf r i need → need ≤ 4096
  pub some_wire : 0 < length t.addresses
  pub wires : (g : ℕ) (a : AddressData) → slice_get t.addresses g ≡ Some a → a.wire.plan ≡ r.system
  pub sent : (weight : Stamp → ℕ) → sent_weight (by_stamp weight) t.addresses ≡ put_out_weight weight t.nodes
  pub drawn : (need : ℕ → ℕ) → ((i : ℕ) → i < length r.system.contexts → IsNeedOf r i (need i)) → t.seat.account.drawn ≡ sum_by (granted_need need) t.nodes
  pub room : t.seat.account.left + t.seat.account.drawn ≡ seat_room
  pub granted : (total : ℕ) → HasGrant t.nodes total → total ≤ t.seat.account.top
  pub top : (bound : ℕ) → asked ≤ bound → ((total : ℕ) → HasGrant t.nodes total → total ≤ bound) → t.seat.account.top ≤ bound

-- ---- what the calls of a team do
abbrev pub CanServe : TeamData → Type 0
CanServe t = (r : Round) × (asked : ℕ) × IsTeam r asked t

-- the letter is one of its round's plan
abbrev pub CanTake : LetterData → TeamData → Type 0
CanTake l t = (r : Round) × (asked : ℕ) × IsTeam r asked t × (l.plan ≡ r.system)

-- t is what came of the team: its nodes are the same but for what a round changes, its wires and its word are the same, and it is a team of the same round
pub record GoesOn (was t : TeamData) : Type 0 where
  pub same : map as_new t.nodes ≡ map as_new was.nodes
  pub wires : map unsent t.addresses ≡ map unsent was.addresses
  pub word : t.seat.word ≡ was.seat.word
  pub team : (r : Round) (asked : ℕ) → IsTeam r asked was → IsTeam r asked t

-- as a bag, the stamps had are the same
abbrev pub HasHadNone : TeamData → TeamData → Type 0
HasHadNone was t = (weight : Stamp → ℕ) → had_weight weight t.nodes ≡ had_weight weight was.nodes

-- or they have become one more, that of the letter
abbrev pub HasHadOne : LetterData → TeamData → TeamData → Type 0
HasHadOne l was t = (weight : Stamp → ℕ) → had_weight weight t.nodes ≡ had_weight weight was.nodes + weight (stamp_of l)
