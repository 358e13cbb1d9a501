use Rattle.std.specs.Arc.{arc_value}
use Rattle.mcs_crew.specs.Hubs.{AreWires}
use Rattle.mcs_crew.proofs.wires.wires_of.Given as goal

abbrev pub invariant-loop-group : goal.invariant-loop-group
invariant-loop-group l = AreWires (arc_value l.plan) l.groups l.group l.addresses.items l.inboxes.items
