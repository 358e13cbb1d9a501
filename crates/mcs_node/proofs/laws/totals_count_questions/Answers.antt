use Rattle.mcs_node.proofs.TotalLemmas.{totals_count_questions, halts_are_true}
use Rattle.mcs_node.proofs.laws.totals_count_questions.Goals as goal

pub returns : goal.returns
returns c = record { count = totals_count_questions; halts = halts_are_true }
