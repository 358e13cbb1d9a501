use Rattle.std.proofs.Common.{arith}
use Rattle.mcs_reasoning_tests.proofs.entailments.is_told_by_clauses.Goals as goal

pub invariant_of-asked : goal.invariant_of-asked
invariant_of-asked c = record { few = (c.may_be_asked.ensures c.if-not-may_be_asked.false).0; few_beliefs = omega arith; over = tt }
