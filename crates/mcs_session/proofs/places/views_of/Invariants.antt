use Rattle.std.proofs.Common.{◌≡◌, ◌++◌, map, take, drop}
use Rattle.mcs_session.specs.Keys.{places_in}
use Rattle.mcs_session.proofs.places.views_of.Given as goal

abbrev pub invariant-loop-part : goal.invariant-loop-part
invariant-loop-part l = l.part-items ≡ map (places_in l.set) (take l.part-index l.initial.part-items) ++ drop l.part-index l.initial.part-items
