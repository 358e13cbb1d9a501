use Rattle.std.proofs.Common.{◌≡◌, ◌++◌, drop, map, length}
use Rattle.mcs_system.specs.Seen.{item_of}
use Rattle.mcs_system.specs.Plain.{Default}
use Rattle.mcs_evidence.specs.Defaults.{defaults_of}
use Rattle.mcs_proof_reader.proofs.texts.just_counts.Given as goal

abbrev pub invariant-loop-item : goal.invariant-loop-item
invariant-loop-item l =
    l.counts.items ++ map (λ (d : Default). length d.justs) (defaults_of (map item_of (drop l.item-index l.items))) ≡ map (λ (d : Default). length d.justs) (defaults_of (map item_of l.items))
