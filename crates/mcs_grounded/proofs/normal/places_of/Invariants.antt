use Rattle.std.proofs.Common.{take}
use Rattle.mcs_program.specs.Placing.{ArePlaces}
use Rattle.mcs_grounded.proofs.normal.places_of.Given as goal

abbrev pub invariant-loop-name : goal.invariant-loop-name
invariant-loop-name l = ArePlaces l.atoms (take l.name-index l.names) l.places
