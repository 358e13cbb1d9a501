-- Laws of the rule of a wire.
use Rattle.std.specs.Prelude.{◌≡◌, ◌≢◌, ℕ, ◌+◌, ◌^◌, ◌<◌, List, [], ◌∷◌, ◌++◌, slice_set}
use mathlib.Core.Option.{some}
use lib.ListN.{get_elem?}
use Rattle.mcs_system.specs.Plain.{System}
use Rattle.mcs_node.specs.Letters.{LetterData}
use Rattle.mcs_wire.specs.declared.view.View.{View}
use Rattle.mcs_wire.specs.Bags.{AreTogether}
use Rattle.mcs_wire.specs.Wires.{WireRule, address_view, after_join, after_send, after_split, after_take, inbox_view, joined_away, no_system, split_off}

-- a state of a wire that meets the rule, of which the end at the port knows v
pub record IsState (plan : System) (addresses : ℕ) (queue : List LetterData) (views : List View) (port : ℕ) (v : View) : Type 0 where
  pub rule : WireRule plan addresses queue views
  pub at : get_elem? views port ≡ some v

-- a new channel is a wire of the system of nothing, without addresses
abbrev pub WiresBeginWithTheRule : Type 0
WiresBeginWithTheRule = WireRule no_system 0 [] (inbox_view no_system 0 [] ∷ [])

-- such a wire gets a plan and a number of addresses: its inbox names them, and the new end is the address that stands for all
abbrev pub NamesKeepTheRule : Type 0
NamesKeepTheRule = (plan : System) (addresses port : ℕ) (queue : List LetterData) (views : List View) → IsState no_system 0 queue views port (inbox_view no_system 0 [])
    → addresses < 2 ^ 32
    → WireRule plan addresses queue (slice_set views port (inbox_view plan addresses []) ++ address_view plan addresses addresses [] ∷ [])

-- an end with a part sends a letter that names its plan
abbrev pub SendsKeepTheRule : Type 0
SendsKeepTheRule = (plan : System) (addresses port : ℕ) (queue : List LetterData) (views : List View) (v : View) (letter : LetterData) → IsState plan addresses queue views port v
    → 0 < v.parts → letter.plan ≡ v.plan
    → WireRule plan addresses (queue ++ letter ∷ []) (slice_set views port (after_send letter v))

-- an end that takes letters takes the first one: it names its plan
abbrev pub TakesKeepTheRule : Type 0
TakesKeepTheRule = (plan : System) (addresses port : ℕ) (queue : List LetterData) (views : List View) (v : View) (letter : LetterData) → IsState plan addresses (letter ∷ queue) views port v
    → 0 < v.reads
    → WireRule plan addresses queue (slice_set views port (after_take letter v)) × (letter.plan ≡ v.plan)

-- an end looks: the queue and what it knows stay
abbrev pub LooksKeepTheRule : Type 0
LooksKeepTheRule = (plan : System) (addresses port : ℕ) (queue : List LetterData) (views : List View) (v : View) → IsState plan addresses queue views port v
    → WireRule plan addresses queue (slice_set views port v)

-- an end with at least two parts gives one to a new end, which is the last one
abbrev pub SplitsKeepTheRule : Type 0
SplitsKeepTheRule = (plan : System) (addresses port : ℕ) (queue : List LetterData) (views : List View) (v : View) → IsState plan addresses queue views port v
    → 1 < v.parts
    → WireRule plan addresses queue (slice_set views port (after_split v) ++ split_off v ∷ [])

-- an end that takes letters or has a part is joined with another one
abbrev pub JoinsKeepTheRule : Type 0
JoinsKeepTheRule = (plan : System) (addresses port other : ℕ) (queue : List LetterData) (views : List View) (v w : View) → IsState plan addresses queue views port v
    → 0 < v.reads + v.parts → other ≢ port → get_elem? views other ≡ some w
    → WireRule plan addresses queue (slice_set (slice_set views port (after_join w v)) other joined_away)

-- the parts of an end are at most the number of addresses, and fit a machine word
abbrev pub PartsFitAWord : Type 0
PartsFitAWord = (plan : System) (addresses port : ℕ) (queue : List LetterData) (views : List View) (v : View) → IsState plan addresses queue views port v
    → v.parts < 2 ^ 32

-- an end that takes letters and has all parts knows all letters
abbrev pub WholeEndsKnowAllLetters : Type 0
WholeEndsKnowAllLetters = (plan : System) (addresses port : ℕ) (queue : List LetterData) (views : List View) (v : View) → IsState plan addresses queue views port v
    → v.reads ≡ 1 → v.parts ≡ v.addresses
    → AreTogether v.taken queue v.sent
