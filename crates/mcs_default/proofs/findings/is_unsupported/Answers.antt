use Rattle.std.proofs.Common.{sym, ◌∙◌}
use Rattle.mcs_default.proofs.SearchLemmas.{upper_denies}
use Rattle.mcs_default.proofs.findings.is_unsupported.Goals as goal

pub returns-then-within : goal.returns-then-within
returns-then-within c names items all _ =
    upper_denies items names c.args.upper.now c.loop-found.found-index c.found-item.result c.args.set c.args.index c.loop-found-test.true c.found-item.is (sym c.has.ensures.value ∙ c.if-not-has.true) (c.within.ensures.0 c.if-within.true) all
