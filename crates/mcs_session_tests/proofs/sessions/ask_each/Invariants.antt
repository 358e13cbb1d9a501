use Rattle.std.proofs.Common.{◌≡◌, []}
use Rattle.mcs_states.specs.Oracles.{with_journal}
use Rattle.mcs_session_tests.proofs.sessions.ask_each.Given as goal

abbrev pub invariant-loop-number : goal.invariant-loop-number
invariant-loop-number l = with_journal [] l.oracle ≡ with_journal [] l.initial.oracle
