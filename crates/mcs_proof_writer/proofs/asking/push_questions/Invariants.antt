use Rattle.std.proofs.Common.{◌≡◌, ◌++◌, map, drop}
use Rattle.mcs_proof_writer.specs.Gathered.{question_with}
use Rattle.mcs_proof_writer.proofs.asking.push_questions.Given as goal

abbrev pub invariant-loop-active : goal.invariant-loop-active
invariant-loop-active l = l.questions.items ++ map (question_with l.context) (drop l.active-index l.sets) ≡ l.fn.questions.items ++ map (question_with l.context) l.sets
