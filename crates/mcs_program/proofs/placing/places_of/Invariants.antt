use Rattle.std.proofs.Common.{take}
use Rattle.mcs_program.specs.Placing.{ArePlaces}
use Rattle.mcs_program.proofs.placing.places_of.Given as goal

abbrev pub invariant-loop-name : goal.invariant-loop-name
invariant-loop-name l = ArePlaces l.program.atoms.now (take l.name-index l.names) l.places
