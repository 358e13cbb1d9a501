use Rattle.std.proofs.Common.{rules, tests, nat_lt, sym, ◌∙◌}
use Rattle.std.proofs.lemmas.Iterator.{YieldsList-from_slice}
use Rattle.std.proofs.lemmas.Iterator.Search.{any_from_yields_List}
use Rattle.mcs_base.proofs.Lists.{any-map}
use Rattle.mcs_system.specs.Faults.{exceeds, item_count}
use Rattle.mcs_system.specs.Plain.{Context}
use Rattle.mcs_system.specs.Seen.{context_of}
use Rattle.mcs_system.proofs.faults.has_many_items.Goals as goal

pub returns : goal.returns
unfolding exceeds
returns c bridges = any_from_yields_List (λ x. nat_lt 4096 (item_count (context_of x).kb)) _ _ c.any.result c.any.ensures.ran (YieldsList-from_slice c.args.contexts.now c.iter.ensures.rest) (λ x b q k. search (rules, tests))
    ∙ sym (any-map (λ (x : Context). nat_lt 4096 (item_count x.kb)) context_of c.args.contexts.now)
