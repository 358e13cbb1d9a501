use Rattle.std.proofs.Common.{rules, tests, map, sym, ap, ◌∙◌}
use Rattle.std.proofs.lemmas.Iterator.{YieldsList-from_slice}
use Rattle.std.proofs.lemmas.Iterator.Search.{any_from_yields_List}
use Rattle.mcs_base.proofs.Lists.{any-map}
use Rattle.mcs_system.specs.Logic.{same_name, is_in}
use Rattle.mcs_system.specs.Plain.{Bridge}
use Rattle.mcs_system.specs.Seen.{bridge_of}
use Rattle.mcs_session_tests.proofs.sessions.has_rule.Goals as goal

pub returns : goal.returns
returns c = any_from_yields_List (λ b. same_name c.args.name.now (bridge_of b).name) _ _ c.any.result c.any.ensures.ran (YieldsList-from_slice c.bridges.result.now c.iter.ensures.rest) (λ x b q k. search (rules, tests))
    ∙ sym (any-map (λ (b : Bridge). same_name c.args.name.now b.name) bridge_of c.bridges.result.now)
    ∙ sym (any-map (same_name c.args.name.now) (λ (b : Bridge). b.name) (map bridge_of c.bridges.result.now))
    ∙ ap (λ bs. is_in c.args.name.now (map (λ (b : Bridge). b.name) bs)) c.bridges.ensures.value
