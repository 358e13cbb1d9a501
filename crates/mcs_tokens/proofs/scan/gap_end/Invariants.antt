use Rattle.std.proofs.Common.{◌≤◌}
use Rattle.mcs_tokens.proofs.Gaps.{GapSoFar}
use Rattle.mcs_tokens.proofs.scan.gap_end.Given as goal

abbrev pub invariant-loop-i : goal.invariant-loop-i
invariant-loop-i l = (l.at ≤ l.i) × GapSoFar l.bytes l.at l.i l.in_comment
