use Rattle.std.proofs.Common.{arith}
use Rattle.std.proofs.lemmas.Bool.Decides.{nat_tests}
use Rattle.mcs_base.specs.PairOrder.{pair_cmp-same, pair_before_less, pair_cmp-after}
use Rattle.std.proofs.Common.{sym}
use Rattle.mcs_base.proofs.kinds.compare_pairs.Goals as goal

pub returns-then-eq : goal.returns-then-eq
returns-then-eq c = let t = c.if-eq.true in pair_cmp-same _ _ (grind (arith, nat_tests))

pub returns-then-pair_before : goal.returns-then-pair_before
returns-then-pair_before c = sym (pair_before_less _ _ (c.pair_before.ensures.0 c.if-pair_before.true))

pub returns-else-pair_before : goal.returns-else-pair_before
returns-else-pair_before c =
    let f = c.if-eq.false in
    let g = c.if-pair_before.false in
    pair_cmp-after _ _ (λ same. grind (arith, nat_tests)) (λ before. let yes = c.pair_before.ensures.1 before in grind (arith, nat_tests))
