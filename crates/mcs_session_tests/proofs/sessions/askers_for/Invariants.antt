use Rattle.std.proofs.Common.{◌≡◌, [], length}
use Rattle.std.specs.List.{AllByRecursion}
use Rattle.mcs_session_tests.proofs.sessions.askers_for.Given as goal

abbrev pub invariant-loop : goal.invariant-loop
invariant-loop l = record {
  many : length l.askers.items ≡ l.counter;
  unasked : AllByRecursion (λ a. a.solved.items ≡ []) l.askers.items;
}
