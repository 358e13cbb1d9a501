use Rattle.std.proofs.Common.{◌≡◌, ◌++◌, ◌≤◌, map, drop}
use Rattle.mcs_rows.specs.Answers.{answered_of}
use Rattle.mcs_node.specs.Known.{new_of, questions_in}
use Rattle.mcs_node.proofs.answers.new_questions.Given as goal

abbrev pub invariant-loop-question : goal.invariant-loop-question
invariant-loop-question l = record {
  told : l.new.items ++ new_of (drop l.at (questions_in (map answered_of l.before))) (drop l.question-index l.asked) ≡ new_of (questions_in (map answered_of l.before)) l.asked;
  few : l.at ≤ l.question-index;
}
