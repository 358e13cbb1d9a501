use Rattle.std.proofs.Common.{◌≡◌, ℕ, ◌<◌, ◌≤◌, get_or, length}
use Rattle.mcs_grounded.specs.Parts.{cones_of}
use Rattle.mcs_grounded.proofs.bounds.Bounds.of.Given as goal

-- the places of the cones before are there, and nothing behind them
abbrev pub invariant-loop-context : goal.invariant-loop-context
invariant-loop-context l = record {
  long : length l.possible ≡ 64;
  before : (i : ℕ) → i < l.context → get_or l.possible i 0 ≡ get_or (cones_of l.cones) i 0;
  behind : (i : ℕ) → l.context ≤ i → get_or l.possible i 0 ≡ 0;
}
