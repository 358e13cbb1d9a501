use Rattle.std.proofs.Common.{◌≡◌}
use Rattle.mcs_wire_tests.proofs.threads.take_some.Given as goal

abbrev pub invariant-loop : goal.invariant-loop
invariant-loop g l = l.inbox.wire ≡ l.fn.taken.inbox.wire
