use Rattle.std.proofs.Common.{map, ap, arith}
use Rattle.mcs_system.specs.Plain.{Fact}
use Rattle.mcs_system.specs.Seen.{item_of}
use Rattle.mcs_generator.specs.Generated.{link_fact}
use Rattle.mcs_base.proofs.Mapped.{map-range_grows_from_2}
use Rattle.mcs_generator.proofs.knowledge.add_link_facts.Goals as goal

pub loop-link-preserved : goal.loop-link-preserved
loop-link-preserved c = map-range_grows_from_2 item_of link_fact (map item_of c.args.items.now.items) c.loop-link.items.items _ _ c.loop-link.link (omega arith) c.in_ok-push.ensures.items (ap (λ f. Fact f) c.in_ok-link_formula.ensures) c.loop-link.invariant
