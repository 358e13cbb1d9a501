use Rattle.mcs_default.proofs.SameLemmas.{same_items, same_before, same_on}
use Rattle.mcs_default.proofs.questions.least_conflict.Goals as goal

pub without_needless-requires-clause-conflict : goal.without_needless-requires-clause-conflict
without_needless-requires-clause-conflict c items parts = c.loop-index.invariant.conflict items (same_before items c.loop-index.invariant.kept parts)

pub loop-index-preserved : goal.loop-index-preserved
loop-index-preserved c = record {
  kept = same_on c.in_ok-least.ensures.kept c.loop-index.invariant.kept;
  conflict = λ items parts. c.in_ok-least.ensures.exact items (same_items items c.loop-index.invariant.kept parts);
}
