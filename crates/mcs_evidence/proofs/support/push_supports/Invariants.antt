use Rattle.mcs_evidence.proofs.SupportClauses.{IsSupporting}
use Rattle.mcs_evidence.proofs.support.push_supports.Given as goal

abbrev pub invariant-loop-rule : goal.invariant-loop-rule
invariant-loop-rule l = IsSupporting l.atoms l.set l.rules l.fn.cnf l.rule-index l.cnf l.any
