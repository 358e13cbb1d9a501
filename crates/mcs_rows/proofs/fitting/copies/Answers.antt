use Rattle.std.proofs.Common.{◌∙◌, refl}
use Rattle.mcs_rows.specs.Fitting.{HasSameParts}
use Rattle.mcs_rows.specs.declared.answer.Answer.{Answer}
use Rattle.mcs_rows.proofs.fitting.copies.Goals as goal
use Rattle.mcs_base.proofs.Zipped.{zip_more}

pub loop-answer-preserved : goal.loop-answer-preserved
loop-answer-preserved c =
    let b : Answer = record { active = c.answer-item.result.active; parts = c.in_ok-parts.parts } in
    zip_more HasSameParts c.args.answers.now c.loop-answer.answer-index c.answer-item.result c.loop-answer-test.true c.answer-item.is c.loop-answer.all.items c.push.new.self.items b c.loop-answer.invariant
    (record { active = refl; parts = c.in_ok-parts.ensures.items ∙ c.deref.ensures.value })
    c.in_ok-push.ensures.items
