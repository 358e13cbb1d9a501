use Rattle.std.proofs.Common.{◌≡◌, [], map}
use Rattle.mcs_states.specs.Oracles.{with_journal}
use Rattle.mcs_session_tests.proofs.sessions.ask_all.Given as goal

abbrev pub invariant-loop-context : goal.invariant-loop-context
invariant-loop-context l = map (with_journal []) l.oracles ≡ map (with_journal []) l.initial.oracles
