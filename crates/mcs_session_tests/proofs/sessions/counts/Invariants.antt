use Rattle.std.proofs.Common.{◌≡◌, false}
use Rattle.mcs_session_tests.proofs.sessions.counts.Given as goal

abbrev pub invariant-loop-edit : goal.invariant-loop-edit
invariant-loop-edit l = l.session.lent ≡ false
