use Rattle.std.proofs.Common.{List}
use Rattle.mcs_engine.specs.declared.trail.Entry.{Entry}
use Rattle.mcs_engine.proofs.KeptLemmas.{as-read, fresh-pair}
use Rattle.mcs_search.proofs.adding.fresh_below.Goals as goal

pub returns-clause-fresh : goal.returns-clause-fresh
returns-clause-fresh c =
    let es : List Entry = c.args.trail.now.entries.items in
    let one = c.false_before-first.ensures in
    let two = c.false_before.ensures in
    fresh-pair es c.false_before-first.result c.false_before.result c.args.pair c.requires.0 c.requires.1 two.low
    (as-read es c.false_before-first.result c.args.pair.first one.fresh) (as-read es c.false_before.result c.args.pair.second two.fresh)
