use Rattle.std.proofs.Common.{◌∙◌}
use Rattle.mcs_mesh.proofs.ReplayLemmas.{letter_same}
use Rattle.mcs_mesh.proofs.replay.receive.Goals as goal

pub returns-in_ok-hand_out-in-Took-clause-receives : goal.returns-in_ok-hand_out-in-Took-clause-receives
returns-in_ok-hand_out-in-Took-clause-receives g c = (c.handle.ensures.took.0 c.in-Took.is, c.handle.new.self, c.handle.ensures.taken c.in-Took.is, c.in_ok-hand_out-in-Took.ensures.out)

pub returns-in_ok-hand_out-in-Took-clause-same : goal.returns-in_ok-hand_out-in-Took-clause-same
returns-in_ok-hand_out-in-Took-clause-same g c = c.hand_out.ensures.same ∙ letter_same c.args.letter c.args.node.now c.handle.new.self (c.handle.ensures.taken c.in-Took.is)

pub returns-in_err-hand_out-in-Took-clause-same : goal.returns-in_err-hand_out-in-Took-clause-same
returns-in_err-hand_out-in-Took-clause-same g c = c.hand_out.ensures.same ∙ letter_same c.args.letter c.args.node.now c.handle.new.self (c.handle.ensures.taken c.in-Took.is)
