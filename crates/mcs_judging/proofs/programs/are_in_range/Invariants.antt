use Rattle.std.proofs.Common.{take}
use Rattle.std.specs.List.{AllByRecursion}
use Rattle.mcs_evidence.specs.Programs.{IsInRange}
use Rattle.mcs_judging.proofs.programs.are_in_range.Given as goal

abbrev pub invariant-loop-set : goal.invariant-loop-set
invariant-loop-set l = AllByRecursion (IsInRange l.atoms) (take l.set-index l.sets)
