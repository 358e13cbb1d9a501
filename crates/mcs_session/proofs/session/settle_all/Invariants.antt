use Rattle.mcs_session.specs.Inside.{AreSettled}
use Rattle.mcs_session.proofs.session.settle_all.Given as goal

abbrev pub invariant-loop-context : goal.invariant-loop-context
invariant-loop-context g l = AreSettled l.context l.system l.initial.asked l.initial.oracles l.asked l.oracles l.answers.new l.answers.kept
