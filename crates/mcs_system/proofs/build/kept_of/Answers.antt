use Rattle.std.proofs.Common.{arith}
use Rattle.std.proofs.lemmas.List.{length-map}
use Rattle.mcs_system.specs.Built.{made_of}
use Rattle.mcs_system.specs.Seen.{context_of, bridge_of}
use Rattle.mcs_system.proofs.BuildLemmas.{due_told, atoms_told, within_variables, few_contexts_first, few_reads}
use Rattle.mcs_system.proofs.build.kept_of.Goals as goal

pub parts_of_contexts-requires-clause-few_contexts : goal.parts_of_contexts-requires-clause-few_contexts
parts_of_contexts-requires-clause-few_contexts c =
    let few = few_contexts_first (made_of c.args.contexts.now c.args.bridges.now) c.requires.first in
    omega (arith, few.0, length-map c.args.contexts.now.items.items context_of)

pub parts_of_contexts-requires-clause-few_rules : goal.parts_of_contexts-requires-clause-few_rules
parts_of_contexts-requires-clause-few_rules c =
    let few = few_contexts_first (made_of c.args.contexts.now c.args.bridges.now) c.requires.first in
    omega (arith, few.1, length-map c.args.bridges.now bridge_of)

pub parts_of_contexts-requires-clause-known : goal.parts_of_contexts-requires-clause-known
parts_of_contexts-requires-clause-known c = c.requires.reads.reads

pub returns-in_err-parts-clause-fault : goal.returns-in_err-parts-clause-fault
returns-in_err-parts-clause-fault c =
    due_told (made_of c.args.contexts.now c.args.bridges.now) _ _ _ _ c.from_residual.ensures.1 (atoms_told (made_of c.args.contexts.now c.args.bridges.now) c.requires.first (few_reads (made_of c.args.contexts.now c.args.bridges.now) c.args.reads c.requires.reads) c.requires.reads.inputs) c.in_err-parts.ensures.many

pub returns-clause-ok : goal.returns-clause-ok
returns-clause-ok c = record {
  variables_are = c.requires.reads.reads.variables_are;
  parts_are = c.in_ok-parts.ensures.parts;
  rules_are = c.requires.reads.reads.rules_are;
  limited = within_variables (made_of c.args.contexts.now c.args.bridges.now) (few_reads (made_of c.args.contexts.now c.args.bridges.now) c.args.reads c.requires.reads) c.requires.reads.inputs c.in_ok-parts.ensures.few;
}
