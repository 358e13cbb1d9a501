use Rattle.std.proofs.Common.{◌≡◌, ◌+◌, drop, count_by}
use Rattle.mcs_session.proofs.oracle.count_seen.Given as goal

abbrev pub invariant-loop-flag : goal.invariant-loop-flag
invariant-loop-flag l = l.count + count_by (λ flag. flag) (drop l.flag-index l.flags) ≡ count_by (λ flag. flag) l.flags
