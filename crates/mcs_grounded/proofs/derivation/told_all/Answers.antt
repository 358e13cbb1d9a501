use Rattle.std.proofs.Common.{◌≡◌, ◌+◌, ◌<◌, ℕ, length, sym, ap, subst, arith}
use Rattle.std.proofs.lemmas.List.{length-map}
use Rattle.mcs_system.specs.Seen.{context_of}
use Rattle.mcs_grounded.specs.Parts.{cones_of}
use Rattle.mcs_grounded.proofs.Telling.{AreToldBelow, told_none, told_next, told_all}
use Rattle.mcs_grounded.proofs.derivation.told_all.Goals as goal

pub loop-context-init : goal.loop-context-init
loop-context-init c = let d = c.args.derivation.now in record {
  found = c.requires.derivation.found;
  told = subst (AreToldBelow d.system.now d.state (cones_of d.cones.now) c.args.against.now c.args.rules 0) (sym c.empty-believed.ensures) (told_none d.system.now d.state (cones_of d.cones.now) c.args.against.now c.args.rules);
}

pub told-requires-clause-derivation : goal.told-requires-clause-derivation
told-requires-clause-derivation c = record { set_up = c.requires.derivation.set_up; found = c.loop-context.invariant.found }

pub loop-context-preserved : goal.loop-context-preserved
loop-context-preserved c =
    let d = c.args.derivation.now in
    let less : c.loop-context.context < length d.system.now.contexts = omega (arith, c.loop-context-test.true, ap length c.contexts.ensures.value, length-map c.contexts.result.now context_of) in
    record {
      found = c.in_ok-own.ensures.found;
      told = subst (AreToldBelow d.system.now d.state (cones_of d.cones.now) c.args.against.now c.args.rules (c.loop-context.context + 1)) (sym c.union-believed.ensures)
          (told_next d.system.now d.state (cones_of d.cones.now) c.args.against.now c.args.rules c.loop-context.context c.loop-context.believed c.in_ok-own.own less c.loop-context.invariant.told c.in_ok-own.ensures.told);
    }

pub returns-clause-told : goal.returns-clause-told
returns-clause-told c =
    let d = c.args.derivation.now in
    let all : c.loop-context.context ≡ length d.system.now.contexts = omega (arith, c.loop-context-test.false, c.loop-context.auto.context-end, ap length c.contexts.ensures.value, length-map c.contexts.result.now context_of) in
    told_all d.system.now d.state (cones_of d.cones.now) c.args.against.now c.args.rules c.loop-context.believed
    (subst (λ (n : ℕ). AreToldBelow d.system.now d.state (cones_of d.cones.now) c.args.against.now c.args.rules n c.loop-context.believed) all c.loop-context.invariant.told)

pub overflow_cast-context-end : goal.overflow_cast-context-end
overflow_cast-context-end c = omega (arith, c.contexts.ensures.few)

pub told-requires-clause-context : goal.told-requires-clause-context
told-requires-clause-context c = omega (arith, c.loop-context-test.true, ap length c.contexts.ensures.value, length-map c.contexts.result.now context_of)

pub told-requires-clause-against : goal.told-requires-clause-against
told-requires-clause-against c = c.requires.against

pub returns-clause-found : goal.returns-clause-found
returns-clause-found c = c.loop-context.invariant.found
