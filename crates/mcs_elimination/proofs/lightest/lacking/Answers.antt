use Rattle.std.proofs.Common.{◌∙◌, arith}
use Rattle.mcs_elimination.proofs.Above.{lacks_all, lacks_few, lacks_more}
use Rattle.mcs_elimination.proofs.lightest.lacking.Goals as goal

pub overflow_add-sum : goal.overflow_add-sum
overflow_add-sum c =
    let items = c.bridges-bridge-items.result.now in
    let i = c.loop-bridge.bridge-index in
    let more = lacks_more c.args.weight items i c.bridge-item.result c.loop-bridge-test.true c.bridge-item.is in
    let few = lacks_few c.args.weight c.args.system.now c.bridges-bridge-items.ensures.valid c.requires items i c.bridges-bridge-items.ensures.value c.loop-bridge-test.true in
    omega (arith, more, few, c.loop-bridge.invariant, c.lack_of-sum.ensures)

pub loop-bridge-preserved : goal.loop-bridge-preserved
loop-bridge-preserved c =
    let more = lacks_more c.args.weight c.bridges-bridge-items.result.now c.loop-bridge.bridge-index c.bridge-item.result c.loop-bridge-test.true c.bridge-item.is in
    omega (arith, more, c.loop-bridge.invariant, c.lack_of-sum.ensures)

pub returns : goal.returns
returns c = c.loop-bridge.invariant ∙ lacks_all c.args.weight c.args.system.now c.bridges-bridge-items.result.now c.loop-bridge.bridge-index c.bridges-bridge-items.ensures.value c.loop-bridge-test.false
