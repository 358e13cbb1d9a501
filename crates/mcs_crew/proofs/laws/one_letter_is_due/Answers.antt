use Rattle.mcs_crew.proofs.ToldLemmas.{one_fact_is_spent, one_fact_is_told, one_letter_is_due}
use Rattle.mcs_crew.proofs.laws.one_letter_is_due.Goals as goal

pub returns : goal.returns
returns c = record { two = one_letter_is_due; example = one_fact_is_told; spent = one_fact_is_spent }
