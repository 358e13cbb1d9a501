-- Addresses of one wire, and letters that they may send.
use Rattle.std.specs.Prelude.{◌≡◌, List}
use Rattle.mcs_node.specs.Letters.{LetterData}
use Rattle.mcs_wire.specs.Ends.{AddressData}
use Rattle.mcs_wire.specs.Wires.{AllName}

-- each of the letters names the plan of the address's wire
abbrev pub IsReady : AddressData → List LetterData → Type 0
IsReady address letters = AllName address.wire.plan letters

-- two addresses of one wire, each with its letters
abbrev pub AreReady : AddressData → List LetterData → AddressData → List LetterData → Type 0
AreReady one letters two others = IsReady one letters × IsReady two others × (two.wire ≡ one.wire)
