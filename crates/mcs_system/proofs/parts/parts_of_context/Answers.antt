use Rattle.std.proofs.Common.{map, refl}
use Rattle.mcs_system.specs.Built.{made_of}
use Rattle.mcs_system.specs.Seen.{read_of}
use Rattle.mcs_system.specs.Systems.{variables}
use Rattle.mcs_system.proofs.PartLemmas.{variables_known, inputs_known, part_made, as_many_parts}
use Rattle.mcs_system.proofs.parts.parts_of_context.Goals as goal

pub atoms_of-requires-clause-variables : goal.atoms_of-requires-clause-variables
atoms_of-requires-clause-variables c = rw c.deref.ensures.value c.requires.known.variables_are

pub variables_among-requires : goal.variables_among-requires
variables_among-requires c = rw c.deref-2.ensures.value c.requires.known.few

pub inputs_among-requires : goal.inputs_among-requires
inputs_among-requires c = rw c.deref-3.ensures.value (as_many_parts (variables (made_of c.args.contexts.now c.args.bridges.now)) c.args.known.now.rules.items c.args.bridges.now c.requires.known.rules_are)

pub returns-clause-parts : goal.returns-clause-parts
returns-clause-parts c = part_made (made_of c.args.contexts.now c.args.bridges.now) c.args.context c.in_ok-atoms.atoms.items c.variables_among.result c.inputs_among.result c.rules_into.result c.in_ok-atoms.ensures.atoms
    (variables_known (made_of c.args.contexts.now c.args.bridges.now) (map read_of c.args.known.now.variables.items) c.args.context c.variables_among.result c.requires.known.variables_are (rw c.deref-2.ensures.value at c.variables_among.ensures))
    (inputs_known (made_of c.args.contexts.now c.args.bridges.now) (variables (made_of c.args.contexts.now c.args.bridges.now)) c.args.context c.inputs_among.result refl (c.inputs_among.ensures (variables (made_of c.args.contexts.now c.args.bridges.now)) (rw c.deref-3.ensures.value c.requires.known.rules_are)))
    (c.rules_into.ensures c.args.contexts.now.items.items)
