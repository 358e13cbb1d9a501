use Rattle.std.proofs.Common.{List}
use Rattle.std.specs.List.{AllByRecursion, AllZip}
use Rattle.mcs_crew.specs.Children.{ComesBack, IsGiven}
use Rattle.mcs_crew.specs.declared.load.Load.{Load}
use Rattle.mcs_crew.proofs.crew.look_round.Given as goal

abbrev pub invariant-loop-child : goal.invariant-loop-child
invariant-loop-child g l = (was : List (Load _)) → AllByRecursion (IsGiven l.draw.word) was → AllZip ComesBack was l.initial.children → AllZip ComesBack was l.children
