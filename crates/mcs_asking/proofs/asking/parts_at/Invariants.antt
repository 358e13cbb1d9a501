use Rattle.std.proofs.Common.{◌≡◌, map, take}
use Rattle.mcs_system.specs.Views.{at_places}
use Rattle.mcs_asking.proofs.asking.parts_at.Given as goal

abbrev pub invariant-loop-view : goal.invariant-loop-view
invariant-loop-view l = l.parts.items ≡ map (at_places l.set) (take l.view-index l.views)
