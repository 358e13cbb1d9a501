use Rattle.mcs_import.proofs.CountLemmas.{counts_agree, count_is_one, journals_counted, counts_grow, need_is_one}
use Rattle.mcs_import.proofs.laws.question_counts_are_one.Goals as goal

pub returns : goal.returns
returns c = record { agree = counts_agree; level = count_is_one; journals = journals_counted; grow = counts_grow; need = need_is_one }
