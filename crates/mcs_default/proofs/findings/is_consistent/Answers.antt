use Rattle.mcs_default.proofs.SearchLemmas.{upper_consistent}
use Rattle.mcs_default.proofs.findings.is_consistent.Goals as goal

pub returns-then-within : goal.returns-then-within
returns-then-within c names items all _ = upper_consistent items names c.args.upper.now c.loop-found.found-index c.found-item.result c.args.set c.loop-found-test.true c.found-item.is (c.within.ensures.0 c.if-within.true) all
