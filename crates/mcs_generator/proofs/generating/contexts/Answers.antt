use Rattle.mcs_system.specs.Seen.{context_of}
use Rattle.mcs_generator.specs.Generated.{generated_context}
use Rattle.mcs_base.proofs.Mapped.{map-range_grows}
use Rattle.mcs_generator.proofs.generating.contexts.Goals as goal

pub loop-i-preserved : goal.loop-i-preserved
loop-i-preserved c = map-range_grows context_of (generated_context c.args.number) c.loop-i.contexts.items _ _ c.loop-i.i c.in_ok-push.ensures.items c.in_ok-context.ensures c.loop-i.invariant
