use Rattle.std.proofs.Common.{ap, ◌∙◌}
use Rattle.mcs_engine.specs.Lists.{row_at}
use Rattle.mcs_engine.proofs.ListsLemmas.{row-more}
use Rattle.mcs_engine.proofs.blocks.make_rows.Goals as goal

pub loop-alloc-preserved : goal.loop-alloc-preserved
loop-alloc-preserved g c = λ p. ap (λ rows. row_at rows p) c.in_ok-push.ensures.items ∙ row-more c.loop-alloc.rows.items c.new.result p c.new.ensures.items ∙ c.loop-alloc.invariant p
