use Rattle.std.proofs.Common.{◌≡◌, List, map}
use Rattle.mcs_sets.specs.Sets.{union}
use Rattle.mcs_system.specs.Parts.{rule_part, rule_part_of}
use Rattle.mcs_system.specs.Plain.{Read}
use Rattle.mcs_system.specs.Seen.{bridge_of}
use Rattle.mcs_system.proofs.PartLemmas.{inputs_from}
use Rattle.mcs_system.proofs.parts.inputs_among.Given as goal

abbrev pub invariant-loop-k : goal.invariant-loop-k
invariant-loop-k l = (vs : List Read) → map rule_part_of l.reads ≡ map (rule_part vs) (map bridge_of l.bridges) → union l.inputs (inputs_from vs l.bridges l.k l.context) ≡ inputs_from vs l.bridges 0 l.context
