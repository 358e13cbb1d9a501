use Rattle.mcs_editing.proofs.BudgetLemmas.{before_is_stage, before_is_short, before_is_one, suffices_or_not}
use Rattle.mcs_editing.proofs.laws.texts_before_are_unambiguous.Goals as goal

pub returns : goal.returns
returns c = record { stages = before_is_stage; short = before_is_short; enough = suffices_or_not; one = before_is_one }
