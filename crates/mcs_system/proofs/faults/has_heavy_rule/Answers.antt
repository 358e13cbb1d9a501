use Rattle.std.proofs.Common.{rules, tests, nat_lt, sym, ◌∙◌}
use Rattle.std.proofs.lemmas.Iterator.{YieldsList-from_slice}
use Rattle.std.proofs.lemmas.Iterator.Search.{any_from_yields_List}
use Rattle.mcs_base.proofs.Lists.{any-map}
use Rattle.mcs_system.specs.Faults.{exceeds}
use Rattle.mcs_system.specs.Plain.{Bridge}
use Rattle.mcs_system.specs.Seen.{bridge_of}
use Rattle.mcs_system.proofs.faults.has_heavy_rule.Goals as goal

pub returns : goal.returns
unfolding exceeds
returns c contexts = any_from_yields_List (λ x. nat_lt 1000000 (bridge_of x).weight) _ _ c.any.result c.any.ensures.ran (YieldsList-from_slice c.args.bridges.now c.iter.ensures.rest) (λ x b q k. search (rules, tests))
    ∙ sym (any-map (λ (x : Bridge). nat_lt 1000000 x.weight) bridge_of c.args.bridges.now)
