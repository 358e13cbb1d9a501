use Rattle.std.proofs.Common.{arith, inl, inr, ◌≡◌}
use Rattle.mcs_sets.specs.Sets.{size}
use Rattle.mcs_sets.proofs.SetLemmas.{pair_before_is}
use Rattle.mcs_sets.proofs.small_set.pair_before.Goals as goal

pub returns-then-m-n-2 : goal.returns-then-m-n-2
returns-then-m-n-2 c =
    let equal : size c.args.a ≡ size c.args.b = omega arith in
    let is = pair_before_is _ _ c.count-m.ensures.in_range c.count-n.ensures.in_range in (
      λ yes. is.0 (inr (equal, c.state_before.ensures.0 yes)),
      λ before. elim (is.1 before) [ inl less ↦ absurd (omega arith) | inr both ↦ c.state_before.ensures.1 both.1 ],
    )
