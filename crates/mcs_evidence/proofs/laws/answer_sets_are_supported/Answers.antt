use Rattle.mcs_evidence.proofs.Supports.{answer_sets_supported, supported_models}
use Rattle.mcs_evidence.proofs.laws.answer_sets_are_supported.Goals as goal

pub returns-clause-each_set : goal.returns-clause-each_set
returns-clause-each_set c = answer_sets_supported

pub returns-clause-without_loops : goal.returns-clause-without_loops
returns-clause-without_loops c = supported_models
