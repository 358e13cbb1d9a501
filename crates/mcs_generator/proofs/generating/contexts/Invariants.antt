use Rattle.std.proofs.Common.{◌≡◌, map}
use Rattle.std.specs.List.{range_with_len}
use Rattle.mcs_system.specs.Seen.{context_of}
use Rattle.mcs_generator.specs.Generated.{generated_context}
use Rattle.mcs_generator.proofs.generating.contexts.Given as goal

abbrev pub invariant-loop-i : goal.invariant-loop-i
invariant-loop-i l = map context_of l.contexts.items ≡ map (generated_context l.number) (range_with_len 0 l.i)
