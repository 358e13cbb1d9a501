use Rattle.mcs_faults.proofs.ReadLemmas.{same-read-told}
use Rattle.mcs_faults.proofs.limits.same_read.Goals as goal

pub returns-then-is : goal.returns-then-is
returns-then-is c = same-read-told c.args.read.now c.args.other.now c.is.result c.same_formula.result c.is.ensures c.if-is.true c.same_formula.ensures
