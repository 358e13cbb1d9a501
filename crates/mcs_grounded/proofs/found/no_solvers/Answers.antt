use Rattle.mcs_system.specs.Seen.{context_of}
use Rattle.std.proofs.lemmas.List.{length-map}
use Rattle.std.proofs.Common.{◌∙◌, ◌+◌, ℕ, refl, ap, length, arith}
use Rattle.mcs_grounded.specs.Parts.{IsFoundOf}
use Rattle.mcs_grounded.proofs.Loops.{each_pushed, push_long}
use Rattle.mcs_grounded.proofs.found.no_solvers.Goals as goal

pub loop-init : goal.loop-init
loop-init c = rw c.new-all.ensures.items (record { one_each = refl; own = λ i d is. cc })

pub loop-preserved : goal.loop-preserved
loop-preserved c = rw c.in_ok-push.ensures.items (record {
  one_each = push_long c.loop.all.items _ ∙ ap (λ (n : ℕ). n + 1) c.loop.invariant.one_each;
  own = each_pushed (IsFoundOf c.args.system.now) c.loop.all.items _ c.loop.counter c.loop.invariant.one_each c.loop.invariant.own tt;
})

pub returns : goal.returns
returns c = record {
  one_each = omega (arith, c.loop.invariant.one_each, c.loop-test.false, c.loop.auto.counter-end, ap length c.contexts-end.ensures.value, length-map c.contexts-end.result.now context_of);
  own = c.loop.invariant.own;
}
