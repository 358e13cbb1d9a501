use Rattle.std.proofs.Common.{sym, map, subst}
use Rattle.mcs_base.proofs.Mapped.{map_push_as}
use Rattle.mcs_rows.specs.Answers.{answered_of}
use Rattle.mcs_node.specs.Known.{AreRight}
use Rattle.mcs_node.proofs.AnswerLemmas.{merged_on}
use Rattle.mcs_node.proofs.answers.merged.Goals as goal

pub loop-question-preserved : goal.loop-question-preserved
loop-question-preserved c =
    merged_on c.args.asked.now c.loop-question.question-index c.question-item.result c.question-item.result (map answered_of c.from-before.result.items) (map answered_of c.from-new.result.items)
    (map answered_of c.loop-question.all.items) (map answered_of c.loop-question.before.items) (map answered_of c.loop-question.new.items) c.loop-question-test.true c.question-item.is c.loop-question.invariant
    (answered_of c.next_answer.result) (map answered_of c.push.new.self.items) (map answered_of c.next_answer.new.before.items) (map answered_of c.next_answer.new.new.items) c.next_answer.ensures.to
    (map_push_as answered_of c.loop-question.all.items c.push.new.self.items c.next_answer.result c.in_ok-push.ensures.items) c.next_answer.ensures.taken

pub returns-clause-right : goal.returns-clause-right
returns-clause-right c m i olds news = (c.loop-question.invariant.right m i (subst (λ xs. AreRight m i (map answered_of xs)) (sym c.from-before.ensures.0) olds) (subst (λ xs. AreRight m i (map answered_of xs)) (sym c.from-new.ensures.0) news)).0
