use Rattle.std.proofs.Common.{map, arith}
use Rattle.mcs_system.specs.Seen.{formula_of}
use Rattle.mcs_generator.specs.Generated.{link_formula}
use Rattle.mcs_base.proofs.Mapped.{map-range_grows_from_2}
use Rattle.mcs_generator.proofs.knowledge.add_link_formulas.Goals as goal

pub loop-link-preserved : goal.loop-link-preserved
loop-link-preserved c = map-range_grows_from_2 formula_of link_formula (map formula_of c.args.formulas.now.items) c.loop-link.formulas.items _ _ c.loop-link.link (omega arith) c.in_ok-push.ensures.items c.in_ok-link_formula.ensures c.loop-link.invariant
