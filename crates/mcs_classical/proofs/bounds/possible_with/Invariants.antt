use Rattle.std.proofs.Common.{List}
use Rattle.std.specs.List.{AllByRecursion}
use Rattle.mcs_system.specs.Plain.{Formula}
use Rattle.mcs_classical.specs.Consequences.{with_assumed, IsUpperConsequence, NoOthersFollow}
use Rattle.mcs_classical.specs.declared.assumptions.Assumption.{Assumption}
use Rattle.mcs_classical.proofs.bounds.possible_with.Given as goal

abbrev pub invariant-loop-found : goal.invariant-loop-found
invariant-loop-found l = (fs : List Formula) (xs : List Assumption) (all : List Formula) → NoOthersFollow (with_assumed fs xs l.set) all l.fn.goals → AllByRecursion (IsUpperConsequence fs xs all) l.upper
    → NoOthersFollow (with_assumed fs xs l.set) all l.possible
