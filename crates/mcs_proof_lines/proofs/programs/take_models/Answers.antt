use Rattle.mcs_evidence.specs.Programs.{model_shown_of}
use Rattle.mcs_proof_lines.specs.Programs.{model_at}
use Rattle.mcs_proof_lines.proofs.WalkLemmas.{many_pushed}
use Rattle.mcs_proof_lines.proofs.programs.take_models.Goals as goal

pub loop-left-preserved : goal.loop-left-preserved
loop-left-preserved c =
    many_pushed (model_at c.args.atoms.now) model_shown_of c.loop-left.models.items c.push.new.self.items c.in-Ok.model c.loop-left.left c.loop-left.lines c.take_model.new.lines _ c.in_ok-push-in-Ok.ensures.items c.loop-left-test.true c.in-Ok.ensures c.loop-left.invariant
