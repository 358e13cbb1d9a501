use Rattle.std.proofs.Common.{◌≡◌, ◌++◌, map, take, drop, false}
use Rattle.mcs_session.proofs.oracle.forget.Given as goal

abbrev pub invariant-loop-flag : goal.invariant-loop-flag
invariant-loop-flag l = l.flags ≡ map (λ _. false) (take l.flag-index l.initial.flags) ++ drop l.flag-index l.initial.flags
