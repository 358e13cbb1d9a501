use Rattle.std.proofs.Common.{◌≡◌, ℕ, ◌+◌, ◌<◌, ◌≤◌, ◌++◌, List, [], length, map, refl, arith, sym, ap, ◌∙◌, append_assoc}
use Rattle.std.proofs.lemmas.Bool.Decides.{nat_tests}
use Rattle.std.proofs.lemmas.List.{length-append, length-map, map-append, append-nil}
use Rattle.mcs_system.specs.Plain.{Read}
use Rattle.mcs_system.specs.Seen.{read_of, system_of}
use Rattle.mcs_system.specs.Systems.{context_variables}
use Rattle.mcs_system.proofs.GatherLemmas.{due_handed}
use Rattle.mcs_system.proofs.VariableLemmas.{variables_from, variables_from-step, variables_from-over, variables-all}
use Rattle.mcs_system.proofs.variables.variables_of.Goals as goal

part_many : (xs ys zs : List Read) → 64 < length ys → 64 < length (xs ++ (ys ++ zs))
part_many xs ys zs many = omega (arith, many, length-append xs (ys ++ zs), length-append ys zs)

both_many : (xs ys zs : List Read) (n : ℕ) → n ≡ length xs + length ys → 64 < n → 64 < length (xs ++ (ys ++ zs))
both_many xs ys zs n is many = omega (arith, many, is, length-append xs (ys ++ zs), length-append ys zs)

pub returns-in_err-own-clause-many : goal.returns-in_err-own-clause-many
returns-in_err-own-clause-many c =
    let step = variables_from-step c.args.contexts.now c.args.bridges.now c.loop-context.context (omega arith) in
    due_handed _ _ _ _ _ c.from_residual.ensures.1
    (λ (many : 64 < length (context_variables (system_of [] c.args.bridges.now) c.loop-context.context)). rw (variables-all c.args.contexts.now c.args.bridges.now, ← c.loop-context.invariant.found, step) (part_many _ _ _ many))
    c.in_err-own.ensures.many

pub returns-then-is_exceeded_by-clause-many : goal.returns-then-is_exceeded_by-clause-many
returns-then-is_exceeded_by-clause-many c =
    let own = c.in_ok-own.ensures.variables in
    let step = variables_from-step c.args.contexts.now c.args.bridges.now c.loop-context.context (omega arith) in
    let many : 64 < c.len.result = grind (arith, nat_tests) in
    rw c.exceeded.ensures (
      refl,
      refl,
      rw (variables-all c.args.contexts.now c.args.bridges.now, ← c.loop-context.invariant.found, step)
          (both_many (map read_of c.loop-context.variables.items) (context_variables (system_of [] c.args.bridges.now) c.loop-context.context) (variables_from c.args.contexts.now c.args.bridges.now (c.loop-context.context + 1)) c.len.result
          (omega (arith, c.in_ok-append.ensures.len, length-map c.loop-context.variables.items read_of, ap length own, length-map c.in_ok-own.own.items read_of))
          many),
    )

pub loop-context-preserved : goal.loop-context-preserved
loop-context-preserved c =
    let own = c.in_ok-own.ensures.variables in
    let step = variables_from-step c.args.contexts.now c.args.bridges.now c.loop-context.context (omega arith) in
    let few : c.len.result ≤ 64 = grind (arith, nat_tests) in
    record {
      found = rw (c.in_ok-append.ensures.items, map-append read_of, own) (append_assoc (map read_of c.loop-context.variables.items) (context_variables (system_of [] c.args.bridges.now) c.loop-context.context) (variables_from c.args.contexts.now c.args.bridges.now (c.loop-context.context + 1)) ∙ ap (λ rs. map read_of c.loop-context.variables.items ++ rs) (sym step) ∙ c.loop-context.invariant.found);
      few = omega arith;
    }

pub returns-clause-variables : goal.returns-clause-variables
returns-clause-variables c =
    let over = variables_from-over c.args.contexts.now c.args.bridges.now c.loop-context.context (omega arith) in
    rw (variables-all c.args.contexts.now c.args.bridges.now, ← c.loop-context.invariant.found, over) (sym (append-nil _))
