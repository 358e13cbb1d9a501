use Rattle.std.proofs.Common.{◌≡◌, ◌∙◌, length, sym, inl, inr, arith}
use Rattle.std.proofs.lemmas.Bool.Decides.{nat_tests}
use Rattle.std.proofs.lemmas.Grind.{common_steps}
use Rattle.mcs_elimination.proofs.Settling.{are_cheapest, is_cost_bound, settles_none}
use Rattle.mcs_elimination.proofs.settled.cheapest_among.Goals as goal
use Rattle.mcs_elimination.proofs.settled.cheapest_among.Goals.{else-is_some-via-then-is_some+else-is_empty, else-is_some-via-else-is_some}

pub cheapest_below-requires-clause-bound : goal.cheapest_below-requires-clause-bound
cheapest_below-requires-clause-bound c = is_cost_bound c.args.system.now c.args.level c.bound_at-below.result c.bound_at-below.ensures

pub returns-then-is_empty : goal.returns-then-is_empty
returns-then-is_empty c =
    let empty : length c.in_ok-cheapest.cheapest.items ≡ 0 = grind (arith, nat_tests, common_steps, c.is_empty.ensures, c.if-is_empty.true, c.in_ok-cheapest.cheapest.ok.0) in
    settles_none c.args.system.now c.args.level c.bound_at-below.result c.in_ok-cheapest.cheapest.items c.bound_at-below.ensures (sym c.is_some.ensures ∙ c.if-is_some.true) empty c.in_ok-cheapest.ensures

pub returns : goal.returns
returns c = are_cheapest c.args.system.now c.bound_at-below.result c.in_ok-cheapest.cheapest.items (elim c.else-is_some.branch [
  | else-is_some-via-then-is_some+else-is_empty w ↦ inr (λ none. grind (arith, nat_tests, common_steps, w.is_empty.ensures, w.if-is_empty.false, c.in_ok-cheapest.cheapest.ok.0, none))
  | else-is_some-via-else-is_some w ↦ inl (sym c.is_some.ensures ∙ w.if-is_some.false)
]) c.in_ok-cheapest.ensures
