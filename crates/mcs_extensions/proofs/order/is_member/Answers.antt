use Rattle.std.proofs.Common.{◌≡◌, ◌<◌, ◌-◌, sym, ap, ◌∙◌, arith}
use Rattle.mcs_base.proofs.Booleans.{false_tells}
use Rattle.mcs_sets.specs.Sets.{has}
use Rattle.mcs_sets.proofs.SetLemmas.{members_below}
use Rattle.mcs_extensions.proofs.order.is_member.Goals as goal

pub returns-then-number-eq0-clause-exact : goal.returns-then-number-eq0-clause-exact
returns-then-number-eq0-clause-exact c = false_tells (λ (k, is, there). omega arith)

pub returns-then-number-gt64-clause-exact : goal.returns-then-number-gt64-clause-exact
returns-then-number-gt64-clause-exact c = false_tells (λ (k, is, there). (let low : k < 64 = members_below c.args.set 64 k c.count.ensures.in_range there in omega arith))

pub returns-clause-exact : goal.returns-clause-exact
returns-clause-exact c = (
  λ h. (c.args.number - 1, omega arith, sym c.has.ensures.value ∙ h),
  λ (k, is, there). (let e : c.args.number - 1 ≡ k = omega arith in c.has.ensures.value ∙ ap (has c.args.set) e ∙ there),
)
