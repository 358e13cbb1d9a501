use Rattle.std.proofs.Common.{◌≡◌, ◌<◌, ◌++◌, [], ◌∷◌, true, false, ltb, length, map, sym, ap, ◌∙◌, arith}
use Rattle.std.proofs.lemmas.Bool.Decides.{nat_tests}
use Rattle.std.proofs.lemmas.List.{map-append}
use Rattle.std.proofs.lemmas.List.FromFn.{map-range_with_len_more}
use Rattle.std.specs.List.{range_with_len}
use Rattle.mcs_system.specs.Atoms.{atoms_of}
use Rattle.mcs_system.specs.Parts.{ContextPart, context_part, context_part_of}
use Rattle.mcs_system.specs.Built.{made_of}
use Rattle.mcs_system.proofs.GatherLemmas.{due_handed}
use Rattle.mcs_system.proofs.PartLemmas.{atoms-exceed}
use Rattle.mcs_system.proofs.parts.parts_of_contexts.Goals as goal
use Rattle.mcs_base.proofs.Ranges.{some_next, some_here, some_end}

pub returns-in_err-own-clause-many : goal.returns-in_err-own-clause-many
returns-in_err-own-clause-many c = due_handed _ _ _ _ _ c.from_residual.ensures.1
    (λ (more : 64 < length (atoms_of (made_of c.args.contexts.now c.args.bridges.now) c.loop-context.context)).
    let many : ltb 64 (length (atoms_of (made_of c.args.contexts.now c.args.bridges.now) c.loop-context.context)) ≡ true = grind (arith, nat_tests) in
    atoms-exceed c.args.contexts.now.items.items c.args.bridges.now ∙ some_here (λ i. ltb 64 (length (atoms_of (made_of c.args.contexts.now c.args.bridges.now) i))) c.loop-context.context (length c.args.contexts.now.items.items) _ (omega arith) many c.loop-context.invariant.left)
    c.in_err-own.ensures.many

pub loop-context-preserved : goal.loop-context-preserved
loop-context-preserved c =
    let part = c.in_ok-own.ensures.parts in
    let own = ap (λ (p : ContextPart). length p.atoms) part in
    let few : ltb 64 (length (atoms_of (made_of c.args.contexts.now c.args.bridges.now) c.loop-context.context)) ≡ false = (let small = c.in_ok-own.ensures.few in grind (arith, nat_tests)) in
    record {
      parts =
          ap (map context_part_of) c.in_ok-push.ensures.items ∙ map-append context_part_of c.loop-context.parts.items (c.in_ok-own.own ∷ [])
          ∙ ap (λ ps. ps ++ context_part_of c.in_ok-own.own ∷ []) c.loop-context.invariant.parts
          ∙ ap (λ p. map (context_part (made_of c.args.contexts.now c.args.bridges.now)) (range_with_len 0 c.loop-context.context) ++ p ∷ []) part
          ∙ sym (map-range_with_len_more (context_part (made_of c.args.contexts.now c.args.bridges.now)) 0 c.loop-context.context c.loop-context.context (omega arith));
      left = some_next (λ i. ltb 64 (length (atoms_of (made_of c.args.contexts.now c.args.bridges.now) i))) c.loop-context.context (length c.args.contexts.now.items.items) _ (omega arith) few c.loop-context.invariant.left;
    }

pub returns-clause-parts : goal.returns-clause-parts
returns-clause-parts c =
    let over : c.loop-context.context ≡ length c.args.contexts.now.items.items = omega arith in
    c.loop-context.invariant.parts ∙ ap (λ n. map (context_part (made_of c.args.contexts.now c.args.bridges.now)) (range_with_len 0 n)) over

pub returns-clause-few : goal.returns-clause-few
returns-clause-few c =
    atoms-exceed c.args.contexts.now.items.items c.args.bridges.now ∙ some_end (λ i. ltb 64 (length (atoms_of (made_of c.args.contexts.now c.args.bridges.now) i))) c.loop-context.context (length c.args.contexts.now.items.items) _ (omega arith) c.loop-context.invariant.left
