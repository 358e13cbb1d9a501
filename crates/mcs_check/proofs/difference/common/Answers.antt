use Rattle.std.proofs.Common.{◌≡◌, ℕ, ◌+◌, [], drop, sym, ap, ◌∙◌, arith}
use Rattle.std.proofs.Math.ListN.{drop_of_length-le}
use Rattle.mcs_check.specs.Collected.{common}
use Rattle.mcs_check.proofs.Differences.{common_none}
use Rattle.mcs_check.proofs.difference.common.Goals as goal

pub returns-else-same-second-clause-value : goal.returns-else-same-second-clause-value
returns-else-same-second-clause-value c =
    let same = c.loop-same.same in
    let rest = drop same c.args.first.now in
    let none : drop same c.args.second.now ≡ [] = drop_of_length-le c.args.second.now (omega arith) in
    let end : same + 0 ≡ same = omega arith in
    sym (c.loop-same.invariant.value ∙ ap (λ (n : ℕ). same + n) (ap (common rest) none ∙ common_none rest) ∙ end)
