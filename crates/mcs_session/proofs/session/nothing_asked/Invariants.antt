use Rattle.std.proofs.Common.{◌≡◌, [], length}
use Rattle.std.specs.List.{AllByRecursion}
use Rattle.mcs_session.proofs.session.nothing_asked.Given as goal

abbrev pub invariant-loop : goal.invariant-loop
invariant-loop l = record {
  many : length l.asked.items ≡ l.counter;
  empty : AllByRecursion (λ own. own.items ≡ []) l.asked.items;
}
