use Rattle.std.proofs.Common.{List}
use Rattle.std.specs.List.{AllByRecursion, AllZip}
use Rattle.mcs_crew.specs.Children.{ComesBack, IsGiven}
use Rattle.mcs_crew.specs.declared.load.Load.{Load}
use Rattle.mcs_crew.proofs.crew.go_round.Given as goal

abbrev pub invariant-loop : goal.invariant-loop
invariant-loop g l = (was : List (Load _)) → AllByRecursion (IsGiven l.draw.word) was → AllZip ComesBack was l.initial.children → AllZip ComesBack was l.children
