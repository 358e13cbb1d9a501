use Rattle.mcs_table.proofs.ExistLemmas.{joins_exist}
use Rattle.mcs_table.proofs.JointLemmas.{joins_are_minimal, joins_apart}
use Rattle.mcs_table.proofs.OrderFreeLemmas.{joins_ignore_order}
use Rattle.mcs_table.proofs.laws.joins_are_minimal_unions.Goals as goal

pub returns-clause-exist : goal.returns-clause-exist
returns-clause-exist c = joins_exist

pub returns-clause-unions : goal.returns-clause-unions
returns-clause-unions c = joins_are_minimal

pub returns-clause-order : goal.returns-clause-order
returns-clause-order c = joins_ignore_order

pub returns-clause-apart : goal.returns-clause-apart
returns-clause-apart c = joins_apart
