use Rattle.std.proofs.Common.{take}
use Rattle.mcs_system.specs.Built.{AreOwnAtoms}
use Rattle.mcs_system.proofs.known.own_atoms_of_each.Given as goal

abbrev pub invariant-loop-context : goal.invariant-loop-context
invariant-loop-context l = AreOwnAtoms (take l.context-index l.contexts) l.own.items
