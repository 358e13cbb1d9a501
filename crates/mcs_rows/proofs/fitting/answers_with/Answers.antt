use Rattle.std.proofs.Common.{refl}
use Rattle.mcs_rows.specs.Fitting.{HasProjectedParts}
use Rattle.mcs_rows.specs.declared.answer.Answer.{Answer}
use Rattle.mcs_rows.proofs.FittingLemmas.{projected_as}
use Rattle.mcs_rows.proofs.fitting.answers_with.Goals as goal
use Rattle.mcs_base.proofs.Zipped.{zip_more}

pub loop-answer-preserved : goal.loop-answer-preserved
loop-answer-preserved c =
    let b : Answer = record { active = c.answer-item.result.active; parts = c.in_ok-parts.parts } in
    zip_more (HasProjectedParts c.args.projections.now c.args.set) c.args.answers.now c.loop-answer.answer-index c.answer-item.result c.loop-answer-test.true c.answer-item.is c.loop-answer.all.items c.push.new.self.items b c.loop-answer.invariant
    (record { active = refl; parts = projected_as c.answer-item.result.parts.items c.deref.result.now c.args.projections.now c.args.projections.now c.args.set c.args.set c.in_ok-parts.parts.items c.deref.ensures.value refl refl c.in_ok-parts.ensures })
    c.in_ok-push.ensures.items
