use Rattle.std.proofs.Common.{◌∙◌}
use Rattle.mcs_base.proofs.Each.{all_read}
use Rattle.mcs_default.specs.Searches.{IsUpper}
use Rattle.mcs_default.proofs.known.Known.with_all_upper.Goals as goal

pub loop-found-preserved : goal.loop-found-preserved
loop-found-preserved c = record {
  set = c.with_upper-known.ensures.set ∙ c.loop-found.invariant.set;
  right = λ names items before all. c.with_upper-known.ensures.right names items (c.loop-found.invariant.right names items before all)
      (all_read (IsUpper names items) c.args.upper.now c.loop-found.found-index c.found-item.result c.loop-found-test.true c.found-item.is all);
}
