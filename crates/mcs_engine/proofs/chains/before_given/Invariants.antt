use Rattle.std.proofs.Common.{◌-◌, ◌+◌, ◌<◌, ◌≤◌, ℕ, length, get_or}
use Rattle.mcs_engine.proofs.chains.before_given.Given as goal

abbrev pub invariant-loop-low : goal.invariant-loop-low
invariant-loop-low l = record {
  order : l.low ≤ l.high;
  within : l.high ≤ length l.learnt;
  before : (j : ℕ) → j < l.low → get_or l.learnt j 0 ≤ l.number + j;
  after : (j : ℕ) → l.high ≤ j → j < length l.learnt → l.number + j < get_or l.learnt j 0;
}

abbrev pub decreases-loop-low : goal.decreases-loop-low
decreases-loop-low l = l.high - l.low
