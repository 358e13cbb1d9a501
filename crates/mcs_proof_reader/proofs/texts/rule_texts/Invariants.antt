use Rattle.std.proofs.Common.{◌≡◌, take, map}
use Rattle.mcs_system.specs.Seen.{bridge_of}
use Rattle.mcs_proof_reader.proofs.texts.rule_texts.Given as goal

abbrev pub invariant-loop-bridge : goal.invariant-loop-bridge
invariant-loop-bridge l = l.texts.items ≡ map (λ b. (bridge_of b).name) (take l.bridge-index l.bridges)
