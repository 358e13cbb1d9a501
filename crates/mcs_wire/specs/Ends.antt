-- What the ends of a wire are seen as, and a wire that is settled.
use Rattle.std.specs.Prelude.{◌≡◌, ℕ, ◌+◌, ◌-◌, ◌<◌, List, [], ◌∷◌, ◌++◌, length, take}
use mathlib.Core.Option.{some}
use lib.ListN.{get_elem?}
use Rattle.atomic_table.specs.Seated.{TableId}
use Rattle.atomic_table.specs.declared.badge.Badge.{Badge}
use Rattle.crossbeam_channel.specs.declared.flavors.array.Key.{Key}
use Rattle.crossbeam_channel.specs.declared.flavors.array.Doing.{Doing}
use Rattle.crossbeam_channel.specs.declared.flavors.array.Rows.{Rows}
use Rattle.crossbeam_channel.specs.Claims.{Pass, view, IsSeatAt}
use Rattle.mcs_system.specs.Plain.{System}
use Rattle.mcs_node.specs.Letters.{LetterData}
use Rattle.mcs_wire.specs.declared.view.View.{View}
use Rattle.mcs_wire.specs.Bags.{AreTogether}
use Rattle.mcs_wire.specs.Wires.{WireRule, inbox_view}

-- which channel it is, by its two tables
pub record Channel : Type 0 where
  pub turns : TableId
  pub letters : Badge (Key LetterData)

-- a wire: its channel, the plan that its letters name, and how many addresses it has
pub record WireData : Type 0 where
  pub channel : Channel
  pub plan : System
  pub addresses : ℕ

-- the wire, how many of its addresses this one stands for, and the letters that were sent by it and by those joined into it
pub record AddressData : Type 0 where
  pub wire : WireData
  pub parts : ℕ
  pub sent : List LetterData

-- the wire, and the letters that were taken, in order
pub record InboxData : Type 0 where
  pub wire : WireData
  pub taken : List LetterData

-- the plan, and the letters that were sent, that were taken, and that were left
pub record SettledData : Type 0 where
  pub plan : System
  pub sent : List LetterData
  pub got : List LetterData
  pub left : List LetterData

abbrev pub with_sent : LetterData → AddressData → AddressData
with_sent letter a = record { wire = a.wire; parts = a.parts; sent = a.sent ++ letter ∷ [] }

-- with one part less
abbrev pub less_one : AddressData → AddressData
less_one a = record { wire = a.wire; parts = a.parts - 1; sent = a.sent }

-- a new address of the wire, with one part
abbrev pub one_part : AddressData → AddressData
one_part a = record { wire = a.wire; parts = 1; sent = [] }

abbrev pub with_joined : AddressData → AddressData → AddressData
with_joined other a = record { wire = a.wire; parts = a.parts + other.parts; sent = a.sent ++ other.sent }

abbrev pub with_taken : LetterData → InboxData → InboxData
with_taken letter i = record { wire = i.wire; taken = i.taken ++ letter ∷ [] }

-- at a moment nothing was queued: the rule allows a state of the wire with this inbox and an empty queue
pub record HasBeenEmpty (i : InboxData) : Type 0 where
  pub views : List View
  pub port : ℕ
  pub at : get_elem? views port ≡ some (inbox_view i.wire.plan i.wire.addresses i.taken)
  pub rule : WireRule i.wire.plan i.wire.addresses [] views

-- ---- what the code keeps
module _ {Q M L A : Type 0} (c : Rows (Badge (Key LetterData)) (Doing LetterData View) Q M (Key LetterData) L A) where
  -- of an end that knows v, on this channel
  abbrev pub wire_of : View → WireData
  wire_of v = record { channel = record { turns = c.stamps.shared.table_id; letters = c.stamps.shared.key }; plan = v.plan; addresses = v.addresses }

  abbrev pub address_of : View → AddressData
  address_of v = record { wire = wire_of v; parts = v.parts; sent = v.sent }

  abbrev pub inbox_of : View → InboxData
  inbox_of v = record { wire = wire_of v; taken = v.taken }

  -- the pass is one of the channel and takes no letters, and the two numbers are its parts and how many letters it has sent
  pub record IsAddress (pass : Pass LetterData View) (parts sent : ℕ) : Type 0 where
    pub at : IsSeatAt c pass
    pub reads : (view pass).reads ≡ 0
    pub taken : (view pass).taken ≡ []
    pub parts_is : parts ≡ (view pass).parts
    pub some_part : 0 < parts
    pub sent_is : sent ≡ length (view pass).sent

  -- the pass is one of the channel, takes letters and sends none
  pub record IsInbox (pass : Pass LetterData View) : Type 0 where
    pub at : IsSeatAt c pass
    pub reads : (view pass).reads ≡ 1
    pub parts : (view pass).parts ≡ 0
    pub sent : (view pass).sent ≡ []

-- so many of the letters taken were taken before the wire was settled
abbrev pub settled_of : View → ℕ → List LetterData → SettledData
settled_of v got left = record { plan = v.plan; sent = v.sent; got = take got v.taken; left = left }

-- the two numbers are how many letters were sent and got, and as bags those got and left are those sent
pub record IsSettled (v : View) (sent got : ℕ) (left : List LetterData) : Type 0 where
  pub sent_is : sent ≡ length v.sent
  pub got_is : got ≡ length (take got v.taken)
  pub together : AreTogether (take got v.taken) left v.sent
