use Rattle.mcs_grammar.proofs.WorkedRules.{lone-rule-read, lone-rule-faults}
use Rattle.mcs_grammar.proofs.laws.worked_rules.Goals as goal

pub returns-clause-read : goal.returns-clause-read
returns-clause-read c = lone-rule-read

pub returns-clause-faults : goal.returns-clause-faults
returns-clause-faults c = lone-rule-faults
