use Rattle.mcs_evidence.proofs.ProgramClauses.{IsReducing}
use Rattle.mcs_evidence.proofs.program.push_reduct.Given as goal

abbrev pub invariant-loop-rule : goal.invariant-loop-rule
invariant-loop-rule l = IsReducing l.atoms l.model l.rules l.fn.cnf l.rule-index l.cnf
