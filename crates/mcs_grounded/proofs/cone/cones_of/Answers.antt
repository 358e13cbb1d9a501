use Rattle.mcs_system.specs.Seen.{context_of}
use Rattle.std.proofs.lemmas.List.{length-map}
use Rattle.std.proofs.Common.{◌∙◌, ◌+◌, ℕ, refl, ap, length, arith}
use Rattle.mcs_grounded.specs.Parts.{IsConeFor}
use Rattle.mcs_grounded.proofs.Loops.{each_pushed, push_long}
use Rattle.mcs_grounded.proofs.cone.cones_of.Goals as goal

pub loop-context-init : goal.loop-context-init
loop-context-init c = rw c.new-cones.ensures.items (record { one_each = refl; own = λ i d is. cc })

pub loop-context-preserved : goal.loop-context-preserved
loop-context-preserved c = rw c.in_ok-push.ensures.items (record {
  one_each = push_long c.loop-context.cones.items _ ∙ ap (λ (n : ℕ). n + 1) c.loop-context.invariant.one_each;
  own = each_pushed (IsConeFor c.args.system.now) c.loop-context.cones.items _ c.loop-context.context c.loop-context.invariant.one_each c.loop-context.invariant.own c.in_ok-cone_of.ensures;
})

pub overflow_cast-context-end : goal.overflow_cast-context-end
overflow_cast-context-end c = omega (arith, c.contexts.ensures.few)

pub cone_of-requires-clause-context : goal.cone_of-requires-clause-context
cone_of-requires-clause-context c = omega (arith, c.loop-context-test.true, ap length c.contexts.ensures.value, length-map c.contexts.result.now context_of)

pub returns : goal.returns
returns c = record {
  valid = c.contexts.ensures.valid;
  one_each = omega (arith, c.loop-context.invariant.one_each, c.loop-context-test.false, c.loop-context.auto.context-end, ap length c.contexts.ensures.value, length-map c.contexts.result.now context_of);
  own = c.loop-context.invariant.own;
}
