use Rattle.std.proofs.Common.{◌≤◌, length, sym, ◌∙◌, arith}
use Rattle.std.proofs.lemmas.List.{length-map}
use Rattle.mcs_system.specs.Seen.{context_of, system_of}
use Rattle.mcs_system.specs.Systems.{variables}
use Rattle.mcs_system.proofs.BuildLemmas.{due_told, variables_told, inputs_told, few_contexts_first}
use Rattle.mcs_system.proofs.build.known_reads.Goals as goal

pub returns-in_err-variables-clause-fault : goal.returns-in_err-variables-clause-fault
returns-in_err-variables-clause-fault c =
    due_told (system_of c.args.contexts.now c.args.bridges.now) _ _ _ _ c.from_residual.ensures.1 (variables_told (system_of c.args.contexts.now c.args.bridges.now) c.requires) c.in_err-variables.ensures.many

pub has_many_inputs-requires-clause-few_contexts : goal.has_many_inputs-requires-clause-few_contexts
has_many_inputs-requires-clause-few_contexts c =
    let few = few_contexts_first (system_of c.args.contexts.now c.args.bridges.now) c.requires in
    omega (arith, few.0, length-map c.args.contexts.now context_of)

pub returns-then-has_many_inputs-clause-fault : goal.returns-then-has_many_inputs-clause-fault
returns-then-has_many_inputs-clause-fault c =
    let few : length (variables (system_of c.args.contexts.now c.args.bridges.now)) ≤ 64 = rw (← c.in_ok-variables.ensures.variables, length-map) c.in_ok-variables.ensures.few in
    rw c.exceeded.ensures (inputs_told (system_of c.args.contexts.now c.args.bridges.now) c.requires few (sym c.has_many_inputs.ensures ∙ c.if-has_many_inputs.true))

pub rule_reads-requires : goal.rule_reads-requires
rule_reads-requires c = rw c.deref.ensures.value c.in_ok-variables.ensures.few

pub has_many_inputs-requires-clause-reads : goal.has_many_inputs-requires-clause-reads
has_many_inputs-requires-clause-reads c = rw c.deref-2.ensures.value (rw (c.deref.ensures.value, c.in_ok-variables.ensures.variables) at c.in_ok-rules.ensures)

pub returns-clause-ok : goal.returns-clause-ok
returns-clause-ok c = record {
  reads = record {
    variables_are = c.in_ok-variables.ensures.variables;
    few = c.in_ok-variables.ensures.few;
    rules_are = rw (c.deref.ensures.value, c.in_ok-variables.ensures.variables) at c.in_ok-rules.ensures;
  };
  inputs = sym c.has_many_inputs.ensures ∙ c.if-has_many_inputs.false;
}
