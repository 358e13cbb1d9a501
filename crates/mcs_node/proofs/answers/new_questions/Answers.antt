use Rattle.std.proofs.Common.{◌∙◌, sym, map, ap, ◌++◌, arith}
use Rattle.mcs_rows.specs.Answers.{answered_of}
use Rattle.mcs_node.specs.Known.{questions_in}
use Rattle.mcs_node.proofs.AnswerLemmas.{asked_there, told_new}
use Rattle.mcs_node.proofs.answers.new_questions.Goals as goal
use Rattle.mcs_node.proofs.answers.new_questions.Goals.{then-is_answered, else-is_answered+in_ok-push}

pub loop-question-preserved : goal.loop-question-preserved
loop-question-preserved c =
    let before = questions_in (map answered_of c.args.before.now) in
    elim c.if-is_answered.branch [
      | then-is_answered w ↦ rw (w.new-is, w.at-is) (record {
        told = ap (λ zs. c.loop-question.new.items ++ zs) (sym (asked_there before c.args.asked.now c.loop-question.at c.loop-question.question-index c.question-item.result c.question-item.result c.loop-question-test.true c.question-item.is (sym c.is_answered.ensures ∙ w.if-is_answered.true))) ∙ c.loop-question.invariant.told;
        few = let h = c.loop-question.invariant.few in omega (arith, h);
      })
      | else-is_answered+in_ok-push w ↦ rw (w.new-is, w.at-is) (record {
        told = told_new before c.args.asked.now c.loop-question.at c.loop-question.question-index c.question-item.result c.question-item.result c.loop-question-test.true c.question-item.is c.loop-question.new.items w.push.new.self.items (sym c.is_answered.ensures ∙ w.if-is_answered.false) w.in_ok-push.ensures.items c.loop-question.invariant.told;
        few = let h = c.loop-question.invariant.few in omega (arith, h);
      })
    ]
