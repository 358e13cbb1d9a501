use Rattle.mcs_default.proofs.SearchLemmas.{conflict_within}
use Rattle.mcs_default.proofs.findings.has_conflict.Goals as goal

pub returns-then-within : goal.returns-then-within
returns-then-within c items all _ = conflict_within items c.args.conflicts.now c.loop-conflict.conflict-index c.conflict-item.result c.args.set c.loop-conflict-test.true c.conflict-item.is (c.within.ensures.0 c.if-within.true) all
