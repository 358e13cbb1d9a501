use Rattle.mcs_table.proofs.EliminationLemmas.{elimination_exists, elimination_is_minimal, elimination_ignores_order, elimination_gives_marks, elimination_apart}
use Rattle.mcs_table.proofs.laws.elimination_gives_minimal_rows.Goals as goal

pub returns-clause-exist : goal.returns-clause-exist
returns-clause-exist c = elimination_exists

pub returns-clause-rows : goal.returns-clause-rows
returns-clause-rows c = elimination_is_minimal

pub returns-clause-order : goal.returns-clause-order
returns-clause-order c = elimination_ignores_order

pub returns-clause-marks : goal.returns-clause-marks
returns-clause-marks c = elimination_gives_marks

pub returns-clause-apart : goal.returns-clause-apart
returns-clause-apart c = elimination_apart
