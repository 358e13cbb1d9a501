use Rattle.std.proofs.Common.{map, take}
use Rattle.mcs_rows.specs.Answers.{answered_of}
use Rattle.mcs_node.specs.Known.{HasAskedAll}
use Rattle.mcs_node.proofs.asking.ask_each.Given as goal

abbrev pub invariant-loop-question : goal.invariant-loop-question
invariant-loop-question g l = HasAskedAll (g.O.Oracle.stands l.initial.oracle) (g.O.Oracle.stands l.oracle) (take l.question-index l.questions) (map answered_of l.answers.items)
