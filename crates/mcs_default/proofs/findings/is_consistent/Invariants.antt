use Rattle.mcs_default.proofs.findings.is_consistent.Given as goal

abbrev pub invariant-loop-found : goal.invariant-loop-found
invariant-loop-found l = Unit {0}
