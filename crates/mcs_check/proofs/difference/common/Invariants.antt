use Rattle.std.proofs.Common.{◌≡◌, ◌+◌, ◌-◌, ◌≤◌, length, drop}
use Rattle.mcs_check.specs.Collected.{common}
use Rattle.mcs_check.proofs.difference.common.Given as goal

abbrev pub invariant-loop-same : goal.invariant-loop-same
invariant-loop-same l = record {
  first : l.same ≤ length l.first;
  second : l.same ≤ length l.second;
  value : common l.first l.second ≡ l.same + common (drop l.same l.first) (drop l.same l.second);
}

abbrev pub decreases-loop-same : goal.decreases-loop-same
decreases-loop-same l = length l.first - l.same
