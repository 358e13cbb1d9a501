use Rattle.std.proofs.Common.{◌∙◌}
use Rattle.mcs_mesh.proofs.TurnLemmas.{granted_same}
use Rattle.mcs_mesh.proofs.replay.grant_node.Goals as goal

pub returns-clause-grants : goal.returns-clause-grants
returns-clause-grants g c = (c.in-Some.need, c.grant.new.self, c.in-Some.ensures, c.in_ok-sum.ensures.sum, c.grant.ensures, c.in_ok-hand_out.ensures.out)

pub returns-clause-same : goal.returns-clause-same
returns-clause-same g c = c.hand_out.ensures.same ∙ granted_same c.in_ok-sum.sum c.args.node.now c.grant.new.self c.grant.ensures

pub returns-in_err-hand_out-clause-same : goal.returns-in_err-hand_out-clause-same
returns-in_err-hand_out-clause-same g c = c.hand_out.ensures.same ∙ granted_same c.in_ok-sum.sum c.args.node.now c.grant.new.self c.grant.ensures
