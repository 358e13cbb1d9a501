use Rattle.mcs_default.proofs.findings.has_conflict.Given as goal

abbrev pub invariant-loop-conflict : goal.invariant-loop-conflict
invariant-loop-conflict l = Unit {0}
