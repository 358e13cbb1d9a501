use Rattle.std.proofs.Common.{◌≡◌, ◌++◌, map, drop}
use Rattle.std.specs.List.{flat_map}
use Rattle.mcs_system.specs.Seen.{context_of}
use Rattle.mcs_writer.specs.Canonical.{context_text}
use Rattle.mcs_writer.proofs.writer.push_contexts.Given as goal

abbrev pub invariant-loop-context : goal.invariant-loop-context
invariant-loop-context l = l.text ++ flat_map context_text (map context_of (drop l.context-index l.context-items)) ≡ l.fn.text ++ flat_map context_text l.system.contexts
