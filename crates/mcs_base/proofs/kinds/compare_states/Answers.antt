use Rattle.std.proofs.Common.{arith}
use Rattle.std.proofs.lemmas.Bool.Decides.{nat_tests}
use Rattle.mcs_base.specs.StateOrder.{cmp-same, cmp-before, cmp-after}
use Rattle.mcs_base.proofs.kinds.compare_states.Goals as goal

pub returns-then-eq : goal.returns-then-eq
returns-then-eq c = let t = c.if-eq.true in cmp-same _ _ (grind (arith, nat_tests))

pub returns-then-state_before : goal.returns-then-state_before
returns-then-state_before c = cmp-before _ _ (c.state_before.ensures.0 c.if-state_before.true)

pub returns-else-state_before : goal.returns-else-state_before
returns-else-state_before c =
    let f = c.if-eq.false in
    let g = c.if-state_before.false in
    cmp-after _ _ (λ same. grind (arith, nat_tests)) (λ before. let yes = c.state_before.ensures.1 before in grind (arith, nat_tests))
