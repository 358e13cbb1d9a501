use Rattle.std.proofs.Common.{take}
use Rattle.std.specs.List.{AllZip}
use Rattle.mcs_proof_writer.specs.Gathered.{answers_of, IsAnswerOf}
use Rattle.mcs_proof_writer.proofs.gathering.gathered.Given as goal

abbrev pub invariant-loop-question : goal.invariant-loop-question
invariant-loop-question l = AllZip (IsAnswerOf l.solvers) (take l.question-index l.questions) (answers_of l.answers.items)
