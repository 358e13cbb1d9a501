use Rattle.mcs_default.proofs.KnownLemmas.{known_lower}
use Rattle.mcs_default.proofs.known.Known.with_lower.Goals as goal

pub returns-clause-right : goal.returns-clause-right
returns-clause-right c items before right =
    known_lower items c.args.self before c.args.found.now c.union.result c.union-2.result (c.within.ensures.0 c.if-not-within.false) c.union.ensures c.union-2.ensures right
