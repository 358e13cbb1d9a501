use Rattle.std.proofs.Common.{rules, tests, sym, ◌∙◌}
use Rattle.std.proofs.lemmas.Iterator.{YieldsList-from_slice}
use Rattle.std.proofs.lemmas.Iterator.Search.{any_from_yields_List}
use Rattle.mcs_base.proofs.Lists.{any-map}
use Rattle.mcs_system.proofs.sizes.any_large.Goals as goal

pub returns : goal.returns
returns g c =
    any_from_yields_List (λ x. g.T.HasSize.large (g.T.HasSize.seen x)) _ _ c.any.result c.any.ensures.ran (YieldsList-from_slice c.args.parts.now c.iter.ensures.rest) (λ x b q k. search (rules, tests))
    ∙ sym (any-map g.T.HasSize.large g.T.HasSize.seen c.args.parts.now)
