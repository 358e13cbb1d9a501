use Rattle.mcs_default.proofs.base.TheoryBase.keep.Goals as goal

pub returns-in_err-keep_lower : goal.returns-in_err-keep_lower
returns-in_err-keep_lower c items base right = record {
  facts = base.facts;
  lower = c.keep_lower.ensures items c.args.given.now.assumptions.now (rw c.deref.ensures.value right.0) base.lower;
  upper = base.upper;
  conflicts = base.conflicts;
}

pub returns-in_err-keep_upper : goal.returns-in_err-keep_upper
returns-in_err-keep_upper c items base right = record {
  facts = base.facts;
  lower = c.keep_lower.ensures items c.args.given.now.assumptions.now (rw c.deref.ensures.value right.0) base.lower;
  upper = c.keep_upper.ensures items c.args.set (rw c.deref-2.ensures.value right.1) base.upper;
  conflicts = base.conflicts;
}

pub returns : goal.returns
returns c items base right = record {
  facts = base.facts;
  lower = c.keep_lower.ensures items c.args.given.now.assumptions.now (rw c.deref.ensures.value right.0) base.lower;
  upper = c.keep_upper.ensures items c.args.set (rw c.deref-2.ensures.value right.1) base.upper;
  conflicts = c.keep_conflicts.ensures items c.args.given.now.assumptions.now (rw c.deref-3.ensures.value right.2) base.conflicts;
}
