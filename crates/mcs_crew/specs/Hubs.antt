-- What the caller keeps of the wires and of the word while they are in use, and how all ends come back to it.
use Rattle.std.specs.Prelude.{◌≡◌, ℕ, ◌+◌, ◌*◌, ◌<◌, ◌≤◌, ◌%◌, ◌^◌, nat_eq, cond, List, [], ◌∷◌, map, length, Some, slice_get}
use Rattle.std.specs.List.{range_with_len, sum_by}
use Rattle.mcs_base.specs.Listings.{IsAmong}
use Rattle.mcs_system.specs.Plain.{System}
use Rattle.mcs_system.specs.Imports.{IsImportOrder, supplied}
use Rattle.mcs_node.specs.Letters.{LetterData}
use Rattle.atomic_table.specs.Seated.{TableId}
use Rattle.mcs_draw.specs.Seats.{ClosedData, DrawData, SeatData}
use Rattle.mcs_wire.specs.Ends.{AddressData, InboxData, SettledData, with_joined}
use Rattle.mcs_crew.specs.Loads.{LoadData}
use Rattle.mcs_crew.specs.Teams.{seat_room, unsent}

-- ---- wires
-- the two ends of a new wire of the plan, which has an address for each of so many groups and one besides
pub record AreEnds (m : System) (groups : ℕ) (a : AddressData) (i : InboxData) : Type 0 where
  pub wire : i.wire ≡ a.wire
  pub plan : a.wire.plan ≡ m
  pub addresses : a.wire.addresses ≡ groups + 1
  pub parts : a.parts ≡ groups + 1
  pub sent : a.sent ≡ []
  pub taken : i.taken ≡ []

-- the first addresses and the inboxes of so many new wires
pub record AreWires (m : System) (groups many : ℕ) (addresses : List AddressData) (inboxes : List InboxData) : Type 0 where
  pub addresses_are : length addresses ≡ many
  pub inboxes_are : length inboxes ≡ many
  pub each : (g : ℕ) (a : AddressData) (i : InboxData) → slice_get addresses g ≡ Some a → slice_get inboxes g ≡ Some i → AreEnds m groups a i

-- the address with so many parts, which has sent nothing
abbrev pub with_parts : ℕ → AddressData → AddressData
with_parts parts a = record { wire = a.wire; parts = parts; sent = [] }

-- ---- letters that are awaited
-- how many letters the contexts of group g among the first n await
abbrev pub awaited_by : System → List ℕ → ℕ → ℕ → ℕ → ℕ
awaited_by m order groups g n = sum_by (λ i. cond (nat_eq (i % groups) g) (length (supplied m order i)) 0) (range_with_len 0 n)

-- ---- new loads
-- the load of group g is new: no node is in it yet, and nothing was sent, taken or drawn. Its seat is one of the word, with this top
pub record IsNewLoad (m : System) (groups g top : ℕ) (word : TableId) (addresses : List AddressData) (inbox : InboxData) (l : LoadData) : Type 0 where
  pub nodes : l.team.nodes ≡ []
  pub addresses_are : l.team.addresses ≡ map (with_parts 1) addresses
  pub word_is : l.team.seat.word ≡ word
  pub account : l.team.seat.account ≡ record { left = seat_room; drawn = 0; top = top }
  pub inbox_is : l.inbox ≡ inbox
  pub left : (order : List ℕ) → IsImportOrder m order → l.left ≡ awaited_by m order groups g (length m.contexts)

-- a new load for each of the inboxes
pub record AreNewLoads (m : System) (groups many top : ℕ) (word : TableId) (addresses : List AddressData) (inboxes : List InboxData) (loads : List LoadData) : Type 0 where
  pub one_each : length loads ≡ many
  pub each : (g : ℕ) (i : InboxData) (l : LoadData) → slice_get inboxes g ≡ Some i → slice_get loads g ≡ Some l → IsNewLoad m groups g top word addresses i l

-- so many addresses were split off each of these, and so many shares off the seat
pub record AreSplitOff (many : ℕ) (before : List AddressData) (seat : SeatData) (after : List AddressData) (now : SeatData) : Type 0 where
  pub same : map (with_parts 1) after ≡ map (with_parts 1) before
  pub parts : (g : ℕ) (a b : AddressData) → slice_get before g ≡ Some a → slice_get after g ≡ Some b → b.parts + many ≡ a.parts
  pub sent : (g : ℕ) (b : AddressData) → slice_get after g ≡ Some b → b.sent ≡ []
  pub word : now.word ≡ seat.word
  pub left : now.account.left + seat_room * many ≡ seat.account.left
  pub drawn : now.account.drawn ≡ seat.account.drawn
  pub top : now.account.top ≡ seat.account.top

-- the word, what the caller keeps, and new loads for all groups of a round
pub record IsEquipment (m : System) (groups asked : ℕ) (draw : DrawData) (addresses : List AddressData) (seat : SeatData) (loads : List LoadData) : Type 0 where
  pub base : draw.base ≡ asked
  pub room : draw.room ≡ 1 + seat_room * groups
  pub word : seat.word ≡ draw.word
  pub account : seat.account ≡ record { left = 1; drawn = 0; top = asked }
  pub one_each : length addresses ≡ groups
  pub kept : (g : ℕ) (a : AddressData) → slice_get addresses g ≡ Some a → (a.wire.plan ≡ m) × (a.wire.addresses ≡ groups + 1) × (a.parts ≡ 1) × (a.sent ≡ [])
  pub inboxes : List InboxData
  pub inboxes_are : (g : ℕ) (a : AddressData) (i : InboxData) → slice_get addresses g ≡ Some a → slice_get inboxes g ≡ Some i → (i.wire ≡ a.wire) × (i.taken ≡ [])
  pub long : length inboxes ≡ groups
  pub new : AreNewLoads m groups groups asked draw.word addresses inboxes loads

-- ---- ends that come back
-- each address was joined with the one at its place
abbrev pub joined_each : List AddressData → List AddressData → List AddressData
joined_each [] bs = []
joined_each (a ∷ ps) [] = a ∷ ps
joined_each (a ∷ ps) (b ∷ bs) = with_joined b a ∷ joined_each ps bs

-- the letter was sent by the address at place g of one of the loads
abbrev pub WasSentBy : List LoadData → ℕ → LetterData → Type 0
WasSentBy loads g letter = (k : ℕ) × (load : LoadData) × (a : AddressData) × (slice_get loads k ≡ Some load) × (slice_get load.team.addresses g ≡ Some a) × IsAmong letter a.sent

-- the addresses at the same places are of one wire, and have sent no more than fits
pub record AreJoinable (ps bs : List AddressData) : Type 0 where
  pub many : length bs ≡ length ps
  pub wires : (g : ℕ) (a b : AddressData) → slice_get ps g ≡ Some a → slice_get bs g ≡ Some b → b.wire ≡ a.wire
  pub fits : (g : ℕ) (a b : AddressData) → slice_get ps g ≡ Some a → slice_get bs g ≡ Some b → length a.sent + length b.sent < 2 ^ 63

-- what a load brings back: an address of each of the wires, and a share of the word
pub record Brings (word : TableId) (wires : List AddressData) (l : LoadData) : Type 0 where
  pub wires_are : map unsent l.team.addresses ≡ map (with_parts 1) wires
  pub short : (g : ℕ) (a : AddressData) → slice_get l.team.addresses g ≡ Some a → length a.sent ≤ 4096
  pub word_is : l.team.seat.word ≡ word
  pub share : l.team.seat.account.left + l.team.seat.account.drawn ≡ seat_room

-- the caller has an address with one part of each wire and a seat with nothing drawn, and the loads bring the others
pub record CanComeBack (asked : ℕ) (word : TableId) (addresses : List AddressData) (seat : SeatData) (loads : List LoadData) : Type 0 where
  pub kept : (g : ℕ) (a : AddressData) → slice_get addresses g ≡ Some a → (a.parts ≡ 1) × (a.sent ≡ [])
  pub word_is : seat.word ≡ word
  pub account : seat.account ≡ record { left = 1; drawn = 0; top = asked }
  pub few : length loads ≤ 64
  pub each : (k : ℕ) (l : LoadData) → slice_get loads k ≡ Some l → Brings word addresses l

-- the addresses at place g and the seats of these loads came back to an address with one part and a seat with nothing drawn
pub record HaveComeBack (asked : ℕ) (wires : List AddressData) (loads : List LoadData) (addresses : List AddressData) (seat : SeatData) : Type 0 where
  pub wires_are : map (with_parts 1) addresses ≡ map (with_parts 1) wires
  pub parts : (g : ℕ) (a : AddressData) → slice_get addresses g ≡ Some a → a.parts ≡ 1 + length loads
  pub sent : (g : ℕ) (a : AddressData) (letter : LetterData) → slice_get addresses g ≡ Some a → IsAmong letter a.sent → WasSentBy loads g letter
  pub few : (g : ℕ) (a : AddressData) → slice_get addresses g ≡ Some a → length a.sent ≤ 4096 * length loads
  pub drawn : seat.account.drawn ≡ sum_by (λ (l : LoadData). l.team.seat.account.drawn) loads
  pub whole : seat.account.left + seat.account.drawn ≡ 1 + seat_room * length loads
  pub tops : (k : ℕ) (load : LoadData) → slice_get loads k ≡ Some load → load.team.seat.account.top ≤ seat.account.top
  pub top : (bound : ℕ) → asked ≤ bound → ((k : ℕ) (load : LoadData) → slice_get loads k ≡ Some load → load.team.seat.account.top ≤ bound) → seat.account.top ≤ bound

-- ---- the end
-- the loads are those of all groups, and their inboxes are of the wires
pub record CanEnd (asked : ℕ) (draw : DrawData) (addresses : List AddressData) (seat : SeatData) (loads : List LoadData) : Type 0 where
  pub back : CanComeBack asked draw.word addresses seat loads
  pub base : draw.base ≡ asked
  pub room : draw.room ≡ 1 + seat_room * length loads
  pub many : length addresses ≡ length loads
  pub parts : (g : ℕ) (a : AddressData) → slice_get addresses g ≡ Some a → a.wire.addresses ≡ length loads + 1
  pub inboxes : (g : ℕ) (a : AddressData) (l : LoadData) → slice_get addresses g ≡ Some a → slice_get loads g ≡ Some l → l.inbox.wire ≡ a.wire

-- each wire was settled
pub record AreSettled (addresses : List AddressData) (inboxes : List InboxData) (wires : List SettledData) : Type 0 where
  pub many : length wires ≡ length addresses
  pub plan : (g : ℕ) (a : AddressData) (s : SettledData) → slice_get addresses g ≡ Some a → slice_get wires g ≡ Some s → s.plan ≡ a.wire.plan
  pub sent : (g : ℕ) (a : AddressData) (s : SettledData) → slice_get addresses g ≡ Some a → slice_get wires g ≡ Some s → s.sent ≡ a.sent
  pub got : (g : ℕ) (i : InboxData) (s : SettledData) → slice_get inboxes g ≡ Some i → slice_get wires g ≡ Some s → s.got ≡ i.taken

-- the wires of the round and its word, once all is over
pub record HaveEnded (asked : ℕ) (addresses : List AddressData) (loads : List LoadData) (wires : List SettledData) (word : ClosedData) : Type 0 where
  pub one_each : length wires ≡ length loads
  pub plan : (g : ℕ) (a : AddressData) (s : SettledData) → slice_get addresses g ≡ Some a → slice_get wires g ≡ Some s → s.plan ≡ a.wire.plan
  pub got : (g : ℕ) (l : LoadData) (s : SettledData) → slice_get loads g ≡ Some l → slice_get wires g ≡ Some s → s.got ≡ l.inbox.taken
  pub sent : (g : ℕ) (s : SettledData) (letter : LetterData) → slice_get wires g ≡ Some s → IsAmong letter s.sent → WasSentBy loads g letter
  pub total : word.total ≡ asked + sum_by (λ (l : LoadData). l.team.seat.account.drawn) loads
  pub tops : (k : ℕ) (l : LoadData) → slice_get loads k ≡ Some l → l.team.seat.account.top ≤ word.total
  pub top : (bound : ℕ) → asked ≤ bound → ((k : ℕ) (l : LoadData) → slice_get loads k ≡ Some l → l.team.seat.account.top ≤ bound) → word.total ≤ bound
