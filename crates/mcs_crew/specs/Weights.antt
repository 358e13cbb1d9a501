-- What letters and stamps weigh. Lists are the same as bags if they weigh the same whatever each stamp weighs: with the weight 1 for one stamp and 0 for the others, a list weighs how often it has the stamp.
use Rattle.std.specs.Prelude.{ℕ, cond, is_some, List}
use Rattle.std.specs.List.{sum_by}
use Rattle.mcs_node.specs.Rounds.{Stamp}
use Rattle.mcs_node.specs.Letters.{LetterData, stamp_of}
use Rattle.mcs_node.specs.Nodes.{NodeData}
use Rattle.mcs_wire.specs.Ends.{AddressData}

-- a letter weighs what its stamp does
abbrev pub by_stamp : (Stamp → ℕ) → LetterData → ℕ
by_stamp weight = λ (letter : LetterData). weight (stamp_of letter)

abbrev pub stamps_weight : (Stamp → ℕ) → List LetterData → ℕ
stamps_weight weight letters = sum_by (by_stamp weight) letters

-- what the letters weigh that were sent by these addresses
abbrev pub sent_weight : (LetterData → ℕ) → List AddressData → ℕ
sent_weight weight addresses = sum_by (λ (a : AddressData). sum_by weight a.sent) addresses

-- what the stamps weigh that the nodes have had
abbrev pub had_weight : (Stamp → ℕ) → List NodeData → ℕ
had_weight weight nodes = sum_by (λ (d : NodeData). sum_by weight d.state.had) nodes

-- what the stamps weigh that the nodes have put out
abbrev pub put_out_weight : (Stamp → ℕ) → List NodeData → ℕ
put_out_weight weight nodes = sum_by (λ (d : NodeData). sum_by weight d.state.put_out) nodes

-- the need of the node's context if it was granted a total, where `need` tells that of each context; else nothing
abbrev pub granted_need : (ℕ → ℕ) → NodeData → ℕ
granted_need need = λ (d : NodeData). cond (is_some d.state.granted) (need d.context) 0
