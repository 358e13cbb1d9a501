use Rattle.std.proofs.Common.{sym, ◌∙◌}
use Rattle.mcs_judging.proofs.Orders.{no_order, empty_order, no_space, not_within, some_order, after_space}
use Rattle.mcs_judging.proofs.order.read_order.Goals as goal

pub returns-in_err-rest : goal.returns-in_err-rest
returns-in_err-rest c = let none = no_order c.args.most c.args.line.now c.in_err-rest.ensures in rw c.from_residual.ensures none

pub returns-then-is_empty : goal.returns-then-is_empty
returns-then-is_empty c = empty_order c.args.most c.args.line.now c.in_ok-rest.rest.now c.in_ok-rest.ensures (sym c.is_empty.ensures ∙ c.if-is_empty.true)

pub returns-in_err-numbers : goal.returns-in_err-numbers
returns-in_err-numbers c =
    let none = no_space c.args.most c.args.line.now c.in_ok-rest.rest.now c.in_ok-rest.ensures (sym c.is_empty.ensures ∙ c.if-is_empty.false) c.in_err-numbers.ensures in
    rw c.from_residual-in_err-numbers.ensures none

pub returns-then-are_within : goal.returns-then-are_within
returns-then-are_within c =
    some_order c.args.most c.args.line.now c.in_ok-rest.rest.now c.in_ok-rest.ensures (sym c.is_empty.ensures ∙ c.if-is_empty.false) c.in_ok-numbers.numbers.now c.in_ok-numbers.ensures (sym c.are_within.ensures ∙ c.if-are_within.true)
    (after_space c.in_ok-rest.rest.now c.in_ok-numbers.numbers.now c.in_ok-numbers.ensures)

pub returns-else-are_within : goal.returns-else-are_within
returns-else-are_within c =
    not_within c.args.most c.args.line.now c.in_ok-rest.rest.now c.in_ok-rest.ensures (sym c.is_empty.ensures ∙ c.if-is_empty.false) c.in_ok-numbers.numbers.now c.in_ok-numbers.ensures (sym c.are_within.ensures ∙ c.if-are_within.false)
