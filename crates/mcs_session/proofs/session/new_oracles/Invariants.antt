use Rattle.std.proofs.Common.{◌≡◌, length}
use Rattle.std.specs.Arc.{arc_value}
use Rattle.mcs_session.proofs.LendingLemmas.{AreFirst}
use Rattle.mcs_session.proofs.session.new_oracles.Given as goal

abbrev pub invariant-loop-asker : goal.invariant-loop-asker
invariant-loop-asker g l = record {
  many : length l.oracles.items ≡ length l.yielded;
  first : AreFirst (arc_value l.system) l.oracles.items;
}
