use Rattle.std.proofs.Common.{map}
use Rattle.mcs_rows.specs.Answers.{answered_of}
use Rattle.mcs_node.proofs.AnswerLemmas.{IsMerging}
use Rattle.mcs_node.proofs.answers.merged.Given as goal

abbrev pub invariant-loop-question : goal.invariant-loop-question
invariant-loop-question l = IsMerging l.asked l.question-index (map answered_of l.initial.before.items) (map answered_of l.initial.new.items) (map answered_of l.all.items) (map answered_of l.before.items) (map answered_of l.new.items)
