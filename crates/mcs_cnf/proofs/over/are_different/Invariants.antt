use Rattle.std.proofs.Common.{◌≡◌, drop}
use Rattle.mcs_system.specs.Faults.{has_twins}
use Rattle.mcs_cnf.proofs.over.are_different.Given as goal

abbrev pub invariant-loop-index : goal.invariant-loop-index
invariant-loop-index l = has_twins l.atoms ≡ has_twins (drop l.index l.atoms)
