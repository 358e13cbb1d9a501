use Rattle.mcs_proof_writer.proofs.GatheringLemmas.{answers_more, kept_within}
use Rattle.mcs_proof_writer.proofs.gathering.gathered.Goals as goal

pub loop-question-preserved : goal.loop-question-preserved
loop-question-preserved c = answers_more c.args.solvers.now c.args.questions.now c.loop-question.question-index c.question-item.result c.index-solvers-question.result _ _ c.kept_for.result
    c.loop-question-test.true c.question-item.is (kept_within c.args.solvers.now c.args.questions.now c.loop-question.question-index c.question-item.result c.requires c.loop-question-test.true c.question-item.is) c.index-solvers-question.is c.in_ok-push.ensures.items c.loop-question.invariant c.kept_for.ensures
