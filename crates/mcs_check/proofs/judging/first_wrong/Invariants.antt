use Rattle.std.proofs.Common.{take, IsTrue}
use Rattle.std.specs.List.{AllByRecursion}
use Rattle.mcs_check.proofs.judging.first_wrong.Given as goal

abbrev pub invariant-loop-answer : goal.invariant-loop-answer
invariant-loop-answer l = AllByRecursion (λ a. IsTrue a.is_right) (take l.answer-index l.answers)
