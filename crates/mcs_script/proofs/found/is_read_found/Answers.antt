use Rattle.std.proofs.Common.{rules, tests, sym, ◌∙◌}
use Rattle.std.proofs.lemmas.Iterator.{YieldsList-from_slice}
use Rattle.std.proofs.lemmas.Iterator.Search.{any_from_yields_List}
use Rattle.mcs_base.proofs.Lists.{any-map}
use Rattle.mcs_system.specs.Seen.{read_of}
use Rattle.mcs_system.specs.Systems.{same_read}
use Rattle.mcs_script.proofs.found.is_read_found.Goals as goal

pub returns : goal.returns
returns c = any_from_yields_List (λ o. same_read (read_of c.args.read.now) (read_of o)) _ _ c.any.result c.any.ensures.ran (YieldsList-from_slice c.args.found.now c.iter.ensures.rest) (λ x b q k. search (rules, tests))
    ∙ sym (any-map (same_read (read_of c.args.read.now)) read_of c.args.found.now)
