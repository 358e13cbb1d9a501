use Rattle.mcs_laws.proofs.Need.{need_of_all_rules}
use Rattle.mcs_laws.proofs.Rows.{rows_have_few_marks, rows_keep_to_supplies}
use Rattle.mcs_laws.proofs.Supplies.{questions_keep_to_supplies, questions_take_supplies}
use Rattle.mcs_laws.proofs.tiny_levels.Goals as goal

pub returns : goal.returns
returns c = record { need = need_of_all_rules; few = rows_have_few_marks; supplies = rows_keep_to_supplies; questions = questions_keep_to_supplies; supplied = questions_take_supplies }
