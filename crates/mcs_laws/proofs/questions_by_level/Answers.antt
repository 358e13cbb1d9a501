use Rattle.mcs_laws.proofs.Counting.{minimal_is_small}
use Rattle.mcs_laws.proofs.Questions.{questions_grow, choices_ask, choices_have_rows}
use Rattle.mcs_laws.proofs.Gluing.{rows_make_choices}
use Rattle.mcs_laws.proofs.questions_by_level.Goals as goal

pub returns : goal.returns
returns c = record { small = minimal_is_small; grow = questions_grow; ask = choices_ask; have = choices_have_rows; rows = rows_make_choices }
