use Rattle.mcs_cnf.specs.Entailments.{entailment_of}
use Rattle.mcs_proof_lines.specs.Walks.{no_at}
use Rattle.mcs_proof_lines.proofs.WalkLemmas.{many_pushed}
use Rattle.mcs_proof_lines.proofs.evidence.take_all_no.Goals as goal

pub loop-left-preserved : goal.loop-left-preserved
loop-left-preserved c =
    many_pushed (no_at c.args.atoms.now) entailment_of c.loop-left.entails.items c.push.new.self.items c.in-Ok.entail c.loop-left.left c.loop-left.lines c.take_no.new.lines _ c.in_ok-push-in-Ok.ensures.items c.loop-left-test.true c.in-Ok.ensures c.loop-left.invariant
