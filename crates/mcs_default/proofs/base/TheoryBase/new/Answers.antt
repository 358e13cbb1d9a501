use Rattle.std.proofs.Common.{◌∙◌}
use Rattle.mcs_default.proofs.base.TheoryBase.new.Goals as goal

pub returns : goal.returns
returns c given = record {
  facts = c.new.ensures.facts ∙ c.in_ok-facts.ensures;
  lower = rw c.new-2.ensures.items tt;
  upper = rw c.new-3.ensures.items tt;
  conflicts = rw c.new-4.ensures.items tt;
}
