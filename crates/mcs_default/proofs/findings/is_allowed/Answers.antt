use Rattle.std.proofs.Common.{sym, ◌∙◌}
use Rattle.mcs_default.proofs.SearchLemmas.{upper_allows}
use Rattle.mcs_default.proofs.findings.is_allowed.Goals as goal

pub returns-then-within : goal.returns-then-within
returns-then-within c names items all _ =
    upper_allows items names c.args.upper.now c.loop-found.found-index c.found-item.result c.args.set c.args.index c.loop-found-test.true c.found-item.is (sym c.has.ensures.value ∙ c.if-has.true) (c.within.ensures.0 c.if-within.true) all
