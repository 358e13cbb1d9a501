use Rattle.mcs_base.proofs.Among.{among_at}
use Rattle.std.proofs.Common.{subst, sym}
use Rattle.mcs_base.specs.Listings.{IsAmong}
use Rattle.mcs_rows.specs.declared.nearest.Near.{Near}
use Rattle.mcs_rows.proofs.nearest.has_near_within.Goals as goal

pub returns-then-within : goal.returns-then-within
returns-then-within c _ = record {
  one = c.near-item.result;
  among = subst (λ (n : Near). IsAmong n c.args.found.now) (sym c.near-item.is) (among_at c.args.found.now c.loop-near.near-index c.near-item.result c.loop-near-test.true);
  within = c.within.ensures.0 c.if-within.true;
}
