use Rattle.std.proofs.Common.{◌≡◌, drop, map}
use Rattle.mcs_system.specs.Seen.{context_of}
use Rattle.mcs_proof_reader.specs.Questions.{context_from}
use Rattle.mcs_proof_reader.proofs.question.context_of.Given as goal

-- the contexts before have other names
abbrev pub invariant-loop-index : goal.invariant-loop-index
invariant-loop-index l = context_from l.name l.index (map context_of (drop l.index l.context-items)) ≡ context_from l.name 0 (map context_of l.context-items)
