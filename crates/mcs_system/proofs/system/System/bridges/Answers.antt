use Rattle.std.proofs.Common.{length, ap, arith}
use Rattle.std.proofs.lemmas.List.{length-map}
use Rattle.mcs_system.specs.Seen.{bridge_of}
use Rattle.mcs_system.proofs.ValidLemmas.{few_bridges}
use Rattle.std.specs.Arc.{arc_value}
use Rattle.mcs_system.specs.Built.{made_of}
use Rattle.mcs_system.proofs.system.System.bridges.Goals as goal

pub returns-clause-few : goal.returns-clause-few
returns-clause-few c = omega (
  arith,
  length-map c.self.inside.bridges.items bridge_of,
  ap length c.deref.ensures.value,
  few_bridges (made_of (arc_value c.self.inside.contexts) c.self.inside.bridges.items) c.self.invariant.valid,
)
