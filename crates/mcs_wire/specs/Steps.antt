-- The rule as a rule of the channel, and what its steps tell an end.
use Rattle.std.specs.Prelude.{◌≡◌, ℕ, ◌^◌, ◌<◌, List, []}
use mathlib.Core.Option.{some}
use lib.ListN.{get_elem?}
use Rattle.mcs_system.specs.Plain.{System}
use Rattle.mcs_node.specs.Letters.{LetterData}
use Rattle.mcs_wire.specs.declared.view.View.{View}
use Rattle.mcs_wire.specs.Bags.{AreTogether}
use Rattle.mcs_wire.specs.Wires.{WireRule, after_send, after_take, inbox_view, no_system}

-- with some plan and some number of addresses, the state meets the rule
pub record KeepsWireRule (queue : List LetterData) (views : List View) : Type 0 where
  pub plan : System
  pub addresses : ℕ
  pub rule : WireRule plan addresses queue views

-- the one pass of a new channel: the inbox of a wire of the system of nothing, without addresses
abbrev pub unnamed : View
unnamed = inbox_view no_system 0 []

abbrev pub SendTells : View → LetterData → View → Type 0
SendTells v letter w = w ≡ after_send letter v

-- the letter that was taken names the plan
pub record TakeTells (v : View) (letter : LetterData) (w : View) : Type 0 where
  pub view : w ≡ after_take letter v
  pub plan : letter.plan ≡ v.plan

-- the rule allows a state with this end and with these letters queued
pub record IsPossible (v : View) (queue : List LetterData) : Type 0 where
  pub views : List View
  pub port : ℕ
  pub at : get_elem? views port ≡ some v
  pub kept : KeepsWireRule queue views

-- if it stands for the inbox and for all addresses, it knows which letters were sent
abbrev pub KnowsAll : View → List LetterData → Type 0
KnowsAll v queue = v.reads ≡ 1 → v.parts ≡ v.addresses → AreTogether v.taken queue v.sent

abbrev pub PartsFit : View → List LetterData → Type 0
PartsFit v queue = v.parts < 2 ^ 32
