use Rattle.mcs_evidence.proofs.ProgramClauses.{IsBreaking}
use Rattle.mcs_evidence.proofs.program.join_broken.Given as goal

abbrev pub invariant-loop-rule : goal.invariant-loop-rule
invariant-loop-rule l = IsBreaking l.atoms l.names l.rules l.fn.cnf l.fn.all l.rule-index l.cnf l.all
