use Rattle.std.proofs.Common.{◌≡◌, take, map}
use Rattle.mcs_system.specs.Seen.{read_of}
use Rattle.mcs_system.specs.Texts.{belief_text}
use Rattle.mcs_proof_reader.proofs.texts.variable_texts.Given as goal

abbrev pub invariant-loop-read : goal.invariant-loop-read
invariant-loop-read l = l.texts.items ≡ map (λ r. belief_text l.system (read_of r)) (take l.read-index l.reads)
