use Rattle.std.proofs.Common.{map, take}
use Rattle.mcs_system.specs.Views.{at_places}
use Rattle.mcs_grounded.specs.Views.{AreShown}
use Rattle.mcs_grounded.proofs.views.shown.Given as goal

abbrev pub invariant-loop-view : goal.invariant-loop-view
invariant-loop-view l = AreShown l.derivation l.context (map (at_places l.places) (take l.view-index l.views)) l.found.items
