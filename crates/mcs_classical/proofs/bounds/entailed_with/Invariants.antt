use Rattle.std.proofs.Common.{List}
use Rattle.std.specs.List.{AllByRecursion}
use Rattle.mcs_system.specs.Plain.{Formula}
use Rattle.mcs_classical.specs.Consequences.{with_assumed, DoFollow, IsLowerConsequence}
use Rattle.mcs_classical.specs.declared.assumptions.Assumption.{Assumption}
use Rattle.mcs_classical.proofs.bounds.entailed_with.Given as goal

abbrev pub invariant-loop-found : goal.invariant-loop-found
invariant-loop-found l = (fs : List Formula) (xs : List Assumption) (goals : List Formula) → AllByRecursion (IsLowerConsequence fs xs goals) l.lower → DoFollow (with_assumed fs xs l.set) goals l.entailed
