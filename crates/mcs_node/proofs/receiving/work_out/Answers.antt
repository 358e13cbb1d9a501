use Rattle.std.proofs.Common.{rules}
use Rattle.mcs_node.proofs.receiving.work_out.Goals as goal

pub told_questions-requires-clause-supplied : goal.told_questions-requires-clause-supplied
told_questions-requires-clause-supplied c = search rules

pub returns-in-Ok : goal.returns-in-Ok
returns-in-Ok c = search rules
