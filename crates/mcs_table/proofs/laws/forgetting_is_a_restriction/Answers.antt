use Rattle.mcs_table.proofs.CommuteLemmas.{forgetting_is_one, forgetting_twice}
use Rattle.mcs_table.proofs.EliminationLemmas.{forgetting_exists, forgetting_apart}
use Rattle.mcs_table.proofs.laws.forgetting_is_a_restriction.Goals as goal

pub returns-clause-exist : goal.returns-clause-exist
returns-clause-exist c = forgetting_exists

pub returns-clause-one : goal.returns-clause-one
returns-clause-one c = forgetting_is_one

pub returns-clause-twice : goal.returns-clause-twice
returns-clause-twice c = forgetting_twice

pub returns-clause-apart : goal.returns-clause-apart
returns-clause-apart c = forgetting_apart
