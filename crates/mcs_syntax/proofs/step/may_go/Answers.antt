use Rattle.std.proofs.Common.{arith, ◌-◌, length, refl, sym, ◌∙◌}
use Rattle.mcs_syntax.proofs.Places.{inside-at}
use Rattle.mcs_syntax.proofs.Stacks.{none-told, same-all, same-below, told-begun, told-stuck, told-last}
use Rattle.mcs_syntax.proofs.step.may_go.Goals as goal

pub loop-count-init : goal.loop-count-init
loop-count-init g c = same-all (g.N.Rules).grammar c.args.table.now c.args.kind c.args.stack.now (length c.args.stack.now) refl

pub begins-requires-clause-inside : goal.begins-requires-clause-inside
begins-requires-clause-inside g c = inside-at (length c.args.table.now) c.args.stack.now c.requires.inside (c.loop-count.count - 1) (omega (arith, c.loop-count-test.true, c.loop-count.invariant.0))

pub is_null-requires : goal.is_null-requires
is_null-requires g c = record { inside = inside-at (length c.args.table.now) c.args.stack.now c.requires.inside (c.loop-count.count - 1) (omega (arith, c.loop-count-test.true, c.loop-count.invariant.0)) }

pub returns-then-begins : goal.returns-then-begins
returns-then-begins g c = told-begun (g.N.Rules).grammar c.args.table.now c.args.kind c.args.stack.now c.loop-count.count (omega (arith, c.loop-count-test.true)) c.loop-count.invariant (sym c.begins.ensures ∙ c.if-begins.true)

pub returns-then-not-is_null : goal.returns-then-not-is_null
returns-then-not-is_null g c = told-stuck (g.N.Rules).grammar c.args.table.now c.args.kind c.args.stack.now c.loop-count.count (omega (arith, c.loop-count-test.true)) c.loop-count.invariant (sym c.begins.ensures ∙ c.if-begins.false) (sym c.is_null.ensures ∙ c.if-not-is_null.true)

pub loop-count-preserved : goal.loop-count-preserved
loop-count-preserved g c = same-below (g.N.Rules).grammar c.args.table.now c.args.kind c.args.stack.now c.loop-count.count (omega (arith, c.loop-count-test.true)) c.loop-count.invariant (sym c.begins.ensures ∙ c.if-begins.false) (sym c.is_null.ensures ∙ c.if-not-is_null.false)

pub returns : goal.returns
returns g c = none-told c.args.kind c.is_none.result c.is_none.ensures ∙ told-last (g.N.Rules).grammar c.args.table.now c.args.kind c.args.stack.now c.loop-count.count (omega (arith, c.loop-count-test.false)) c.loop-count.invariant
