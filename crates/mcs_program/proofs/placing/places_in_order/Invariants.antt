use Rattle.std.proofs.Common.{take, map}
use Rattle.std.specs.List.{AllZip}
use Rattle.mcs_program.specs.Placing.{IsPlaceOf}
use Rattle.mcs_program.proofs.placing.places_in_order.Given as goal

abbrev pub invariant-loop-belief : goal.invariant-loop-belief
invariant-loop-belief l = AllZip (IsPlaceOf l.program.atoms.now) (map (λ b. b.now) (take l.belief-index l.program.beliefs.now)) l.places.items
