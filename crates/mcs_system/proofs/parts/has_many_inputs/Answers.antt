use Rattle.std.proofs.Common.{◌≡◌, true, false, ltb, length, refl, sym, ◌∙◌, arith}
use Rattle.std.proofs.lemmas.Bool.Decides.{nat_tests}
use Rattle.mcs_sets.specs.Sets.{size}
use Rattle.mcs_system.specs.Rows.{inputs_of}
use Rattle.mcs_system.specs.Seen.{system_of}
use Rattle.mcs_system.specs.Systems.{variables}
use Rattle.mcs_system.proofs.PartLemmas.{inputs_known, inputs-exceed, as_many_parts}
use Rattle.mcs_system.proofs.parts.has_many_inputs.Goals as goal
use Rattle.mcs_base.proofs.Ranges.{some_next, some_here, some_end}

pub inputs_among-requires : goal.inputs_among-requires
inputs_among-requires c = as_many_parts (variables (system_of c.args.contexts.now c.args.bridges.now)) c.args.reads.now c.args.bridges.now c.requires.reads

pub returns-then-is_exceeded_by : goal.returns-then-is_exceeded_by
returns-then-is_exceeded_by c =
    let own = inputs_known (system_of c.args.contexts.now c.args.bridges.now) (variables (system_of c.args.contexts.now c.args.bridges.now)) c.loop-context.context c.inputs_among.result refl (c.inputs_among.ensures (variables (system_of c.args.contexts.now c.args.bridges.now)) c.requires.reads) in
    let many : ltb 16 (size (inputs_of (system_of c.args.contexts.now c.args.bridges.now) c.loop-context.context)) ≡ true = rw (← own, ← c.count.ensures.number) (grind (arith, nat_tests)) in
    sym (inputs-exceed c.args.contexts.now c.args.bridges.now ∙ some_here (λ i. ltb 16 (size (inputs_of (system_of c.args.contexts.now c.args.bridges.now) i))) c.loop-context.context (length c.args.contexts.now) _ (omega arith) many c.loop-context.invariant)

pub loop-context-preserved : goal.loop-context-preserved
loop-context-preserved c =
    let own = inputs_known (system_of c.args.contexts.now c.args.bridges.now) (variables (system_of c.args.contexts.now c.args.bridges.now)) c.loop-context.context c.inputs_among.result refl (c.inputs_among.ensures (variables (system_of c.args.contexts.now c.args.bridges.now)) c.requires.reads) in
    let few : ltb 16 (size (inputs_of (system_of c.args.contexts.now c.args.bridges.now) c.loop-context.context)) ≡ false = rw (← own, ← c.count.ensures.number) (grind (arith, nat_tests)) in
    some_next (λ i. ltb 16 (size (inputs_of (system_of c.args.contexts.now c.args.bridges.now) i))) c.loop-context.context (length c.args.contexts.now) _ (omega arith) few c.loop-context.invariant

pub returns : goal.returns
returns c = sym (inputs-exceed c.args.contexts.now c.args.bridges.now ∙ some_end (λ i. ltb 16 (size (inputs_of (system_of c.args.contexts.now c.args.bridges.now) i))) c.loop-context.context (length c.args.contexts.now) _ (omega arith) c.loop-context.invariant)
