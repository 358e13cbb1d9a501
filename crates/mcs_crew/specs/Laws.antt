-- Laws of rounds by threads: each is the contract of a function of `laws`.
use Rattle.std.specs.Prelude.{◌≡◌, ℕ, false, [], ◌∷◌, Some, length, map, slice_get}
use Rattle.mcs_system.specs.Plain.{System}
use Rattle.mcs_laws.specs.Examples.{one_reads_fact}
use Rattle.mcs_node.specs.Rounds.{Finishes, Round, Stamp, Supplies, stamp}
use Rattle.mcs_node.specs.Letters.{stamp_of}
use Rattle.mcs_node.specs.Nodes.{NodeData}
use Rattle.mcs_draw.specs.Seats.{ClosedData}
use Rattle.mcs_wire.specs.Ends.{SettledData}
use Rattle.mcs_crew.specs.Loads.{IsAtWork, LoadData}
use Rattle.mcs_crew.specs.Told.{ShowsDone, ShowsSpent}
use Rattle.mcs_crew.specs.Trails.{TrailData}
use Rattle.mcs_crew.specs.Weights.{had_weight, stamps_weight}

-- Where all nodes of a load have finished, no letter is left to be taken, and none of those taken was ignored: as a bag, they have the stamps that the nodes have had.
abbrev pub NoneIsIgnored : Type 0
NoneIsIgnored = (r : Round) (asked : ℕ) (load : LoadData) → IsAtWork r asked load → ((p : ℕ) (d : NodeData) → slice_get load.team.nodes p ≡ Some d → Finishes r d.context d.state)
    → (load.left ≡ 0) × ((weight : Stamp → ℕ) → stamps_weight weight load.inbox.taken ≡ had_weight weight load.team.nodes)

-- Of two contexts, of which the first supplies the second and nothing else supplies anything, a trail of two groups that shows a round done has no letter at the first wire, and at the second one letter: the supply of the level from the first context to the second.
abbrev pub OneLetterIsDue : Type 0
OneLetterIsDue = (m : System) (level : ℕ) → Supplies m 0 1 → ((j i : ℕ) → Supplies m j i → (j ≡ 0) × (i ≡ 1)) → (t : TrailData) → ShowsDone m level 2 t
    → (s : SettledData) → (slice_get t.wires 0 ≡ Some s → s.got ≡ []) × (slice_get t.wires 1 ≡ Some s → map stamp_of s.got ≡ stamp level 0 1 false ∷ [])

-- in the example, where one context reads a fact of the other, that is so at level 0; there are two wires, and the word ends with 2
abbrev pub OneFactIsTold : Type 0
OneFactIsTold = (t : TrailData) → ShowsDone one_reads_fact 0 2 t → (length t.wires ≡ 2) × ((word : ClosedData) → t.word ≡ Some word → word.total ≡ 2)
    × ((s : SettledData) → (slice_get t.wires 0 ≡ Some s → s.got ≡ []) × (slice_get t.wires 1 ≡ Some s → map stamp_of s.got ≡ stamp 0 0 1 false ∷ []))

-- within a budget of one question it is spent there with 2
abbrev pub OneFactIsSpent : Type 0
OneFactIsSpent = (t : TrailData) → ShowsSpent one_reads_fact 0 1 2 t → (length t.wires ≡ 2) × ((word : ClosedData) → t.word ≡ Some word → word.total ≡ 2)
