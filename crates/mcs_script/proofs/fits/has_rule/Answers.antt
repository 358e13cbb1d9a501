use Rattle.std.proofs.Common.{rules, tests, map, sym, ◌∙◌}
use Rattle.std.proofs.lemmas.Iterator.{YieldsList-from_slice}
use Rattle.std.proofs.lemmas.Iterator.Search.{any_from_yields_List}
use Rattle.mcs_base.proofs.Lists.{any-map}
use Rattle.mcs_system.specs.Logic.{same_name}
use Rattle.mcs_system.specs.Plain.{Bridge}
use Rattle.mcs_system.specs.Seen.{bridge_of}
use Rattle.mcs_script.proofs.fits.has_rule.Goals as goal

pub returns : goal.returns
returns c = any_from_yields_List (λ b. same_name c.args.name.now (bridge_of b).name) _ _ c.any.result c.any.ensures.ran (YieldsList-from_slice c.args.rules.now c.iter.ensures.rest) (λ x b q k. search (rules, tests))
    ∙ sym (any-map (λ (b : Bridge). same_name c.args.name.now b.name) bridge_of c.args.rules.now)
    ∙ sym (any-map (same_name c.args.name.now) (λ (b : Bridge). b.name) (map bridge_of c.args.rules.now))
