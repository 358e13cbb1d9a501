use Rattle.mcs_base.proofs.Booleans.{false_tells, true_tells}
use Rattle.std.proofs.lemmas.Bool.{iff_false}
use Rattle.mcs_answer_sets.proofs.ModelLemmas.{ascend_start, ascend_on, ascend_off, ascend_end}
use Rattle.mcs_answer_sets.proofs.program.are_ascending.Goals as goal

pub loop-index-init : goal.loop-index-init
loop-index-init c = ascend_start c.args.states.now

pub loop-index-preserved : goal.loop-index-preserved
loop-index-preserved c =
    ascend_on c.args.states.now c.loop-index.index c.index-states-index.result c.index-states-index-in-loop-index.result c.loop-index-test.true c.index-states-index.is c.index-states-index-in-loop-index.is c.loop-index.invariant
    (c.state_before.ensures.0 c.if-not-state_before.false)

pub returns-then-not-state_before : goal.returns-then-not-state_before
returns-then-not-state_before c =
    false_tells (ascend_off c.args.states.now c.loop-index.index c.index-states-index.result c.index-states-index-in-loop-index.result c.loop-index-test.true c.index-states-index.is c.index-states-index-in-loop-index.is c.loop-index.invariant
    (iff_false c.state_before.ensures c.if-not-state_before.true))

pub returns : goal.returns
returns c = true_tells (ascend_end c.args.states.now c.loop-index.index c.loop-index-test.false c.loop-index.invariant)
