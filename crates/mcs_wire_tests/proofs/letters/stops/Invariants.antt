use Rattle.std.specs.Arc.{arc_value}
use Rattle.mcs_wire.specs.Wires.{AllName}
use Rattle.mcs_wire_tests.proofs.letters.stops.Given as goal

abbrev pub invariant-loop-i : goal.invariant-loop-i
invariant-loop-i l = AllName (arc_value l.fn.plan) l.letters.items
