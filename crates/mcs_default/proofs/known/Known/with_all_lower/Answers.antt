use Rattle.std.proofs.Common.{◌∙◌}
use Rattle.mcs_base.proofs.Each.{all_read}
use Rattle.mcs_default.specs.Searches.{IsLower}
use Rattle.mcs_default.proofs.known.Known.with_all_lower.Goals as goal

pub loop-found-preserved : goal.loop-found-preserved
loop-found-preserved c = record {
  set = c.with_lower-known.ensures.set ∙ c.loop-found.invariant.set;
  right = λ items before all. c.with_lower-known.ensures.right items (c.loop-found.invariant.right items before all)
      (all_read (IsLower items) c.args.lower.now c.loop-found.found-index c.found-item.result c.loop-found-test.true c.found-item.is all);
}
