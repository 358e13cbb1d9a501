use Rattle.std.proofs.Common.{rules, tests, length, map, sym, ap, ◌∙◌}
use Rattle.std.proofs.lemmas.Iterator.{YieldsList-from_slice}
use Rattle.std.proofs.lemmas.Iterator.Search.{any_from_yields_List}
use Rattle.std.proofs.lemmas.List.{length-map}
use Rattle.std.specs.List.{list_any}
use Rattle.mcs_base.proofs.Lists.{any-map}
use Rattle.mcs_system.specs.Faults.{points_outside}
use Rattle.mcs_system.specs.Seen.{bridge_of, context_of}
use Rattle.mcs_system.proofs.faults.has_unknown_context.Goals as goal

pub returns : goal.returns
returns c = any_from_yields_List (λ b. points_outside (length c.args.contexts.now) (bridge_of b)) _ _ c.any.result c.any.ensures.ran (YieldsList-from_slice c.args.bridges.now c.iter.ensures.rest) (λ x b q k. search (rules, tests))
    ∙ sym (any-map (points_outside (length c.args.contexts.now)) bridge_of c.args.bridges.now)
    ∙ ap (λ n. list_any (points_outside n) (map bridge_of c.args.bridges.now)) (sym (length-map c.args.contexts.now context_of))
