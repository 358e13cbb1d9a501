use Rattle.std.proofs.lemmas.Result.{on_ok_weaker}
use Rattle.mcs_proof_writer.proofs.GatheringLemmas.{adds_asked}
use Rattle.mcs_proof_writer.proofs.asking.push_asked.Goals as goal

pub returns : goal.returns
returns c = on_ok_weaker c.push_questions.result (λ after. adds_asked c.args.context c.args.solver.now c.args.questions.now.items c.push_questions.new.questions.items c.in_ok-sets.sets.items c.deref.result.now c.deref.ensures.value c.in_ok-sets.ensures after) c.push_questions.ensures
