use Rattle.mcs_proof_writer.specs.Gathered.{AreOfFirst}
use Rattle.mcs_proof_writer.proofs.asking.all_questions.Given as goal

abbrev pub invariant-loop-context : goal.invariant-loop-context
invariant-loop-context l = AreOfFirst l.solvers l.context l.questions.items
