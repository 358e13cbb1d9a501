use Rattle.std.proofs.Common.{◌≡◌, ◌∙◌, length, sym, subst, inl, inr, arith}
use Rattle.std.proofs.lemmas.Bool.Decides.{nat_tests}
use Rattle.std.proofs.lemmas.Grind.{common_steps}
use Rattle.mcs_system.specs.Plain.{System}
use Rattle.mcs_elimination.specs.Lightest.{IsBoundAt}
use Rattle.mcs_elimination.proofs.Settling.{are_cheapest, is_cost_bound, settles_none}
use Rattle.mcs_elimination.proofs.settled.cheapest_at.Goals as goal
use Rattle.mcs_elimination.proofs.settled.cheapest_at.Goals.{else-is_some-via-then-is_some+else-is_empty, else-is_some-via-else-is_some}

pub cheapest_in-requires-clause-bound : goal.cheapest_in-requires-clause-bound
cheapest_in-requires-clause-bound c = is_cost_bound c.args.plan.now c.args.level c.bound_at-below.result (subst (λ (m : System). IsBoundAt m c.args.level c.bound_at-below.result) c.system.ensures c.bound_at-below.ensures)

pub cheapest_in-requires-clause-tables : goal.cheapest_in-requires-clause-tables
cheapest_in-requires-clause-tables c =
    let (k, dear, high, are_dear, given) = c.requires in
    (k, dear, high, are_dear c.bound_at-below.result (subst (λ (m : System). IsBoundAt m c.args.level c.bound_at-below.result) c.system.ensures c.bound_at-below.ensures), given)

pub returns-then-is_empty : goal.returns-then-is_empty
returns-then-is_empty c =
    let empty : length c.in_ok-pairs.pairs.items ≡ 0 = grind (arith, nat_tests, common_steps, c.is_empty.ensures, c.if-is_empty.true, c.in_ok-pairs.pairs.ok.0) in
    settles_none c.args.plan.now c.args.level c.bound_at-below.result c.in_ok-pairs.pairs.items
    (subst (λ (m : System). IsBoundAt m c.args.level c.bound_at-below.result) c.system.ensures c.bound_at-below.ensures) (sym c.is_some.ensures ∙ c.if-is_some.true) empty c.in_ok-pairs.ensures

pub returns : goal.returns
returns c = are_cheapest c.args.plan.now c.bound_at-below.result c.in_ok-pairs.pairs.items (elim c.else-is_some.branch [
  | else-is_some-via-then-is_some+else-is_empty w ↦ inr (λ none. grind (arith, nat_tests, common_steps, w.is_empty.ensures, w.if-is_empty.false, c.in_ok-pairs.pairs.ok.0, none))
  | else-is_some-via-else-is_some w ↦ inl (sym c.is_some.ensures ∙ w.if-is_some.false)
]) c.in_ok-pairs.ensures
