use Rattle.mcs_answer_sets.proofs.ModelLemmas.{AscendFrom}
use Rattle.mcs_answer_sets.proofs.program.are_ascending.Given as goal

abbrev pub invariant-loop-index : goal.invariant-loop-index
invariant-loop-index l = AscendFrom l.states l.index
