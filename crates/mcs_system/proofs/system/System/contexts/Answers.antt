use Rattle.std.proofs.Common.{length, ap, arith}
use Rattle.std.proofs.lemmas.List.{length-map}
use Rattle.mcs_system.specs.Seen.{context_of}
use Rattle.mcs_system.proofs.ValidLemmas.{few_contexts}
use Rattle.std.specs.Arc.{arc_value}
use Rattle.mcs_system.specs.Built.{made_of}
use Rattle.mcs_system.specs.declared.known.KnownContexts.{KnownContexts}
use Rattle.mcs_system.proofs.system.System.contexts.Goals as goal

pub returns-clause-few : goal.returns-clause-few
returns-clause-few c = omega (
  arith,
  length-map (arc_value c.self.inside.contexts).items.items context_of,
  ap length c.deref-2.ensures.value,
  ap (λ (k : KnownContexts). length k.items.items) c.deref.ensures,
  few_contexts (made_of (arc_value c.self.inside.contexts) c.self.inside.bridges.items) c.self.invariant.valid,
)
