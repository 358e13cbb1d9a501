use Rattle.std.proofs.Common.{◌≡◌, ◌∙◌, false, refl, sym, arith}
use Rattle.mcs_base.proofs.Lists.{slice_get_read_as}
use Rattle.mcs_node.specs.Nodes.{NodeData}
use Rattle.mcs_mesh.specs.Replays.{lowest, no_node}
use Rattle.mcs_mesh.proofs.ReplayLemmas.{one_place_more}
use Rattle.mcs_mesh.proofs.replay.lowest_halt.Goals as goal

pub loop-node-init : goal.loop-node-init
loop-node-init g c = λ i d less at. absurd (omega (arith, less))

pub loop-node-preserved : goal.loop-node-preserved
loop-node-preserved g c =
    let nodes = c.args.nodes.now in
    let k = c.loop-node.node-index in
    one_place_more (λ (z : NodeData). z.state.by_itself ≡ false) nodes k c.node-item.result (slice_get_read_as nodes nodes k c.node-item.result refl c.loop-node-test.true c.node-item.is)
    (sym c.by_itself.ensures ∙ c.if-by_itself.false) c.loop-node.invariant

pub returns-then-by_itself : goal.returns-then-by_itself
returns-then-by_itself g c =
    let nodes = c.args.nodes.now in
    let k = c.loop-node.node-index in
    lowest k c.node-item.result (slice_get_read_as nodes nodes k c.node-item.result refl c.loop-node-test.true c.node-item.is) (sym c.by_itself.ensures ∙ c.if-by_itself.true) c.loop-node.invariant c.stopped.ensures

pub returns : goal.returns
returns g c = no_node (λ i d less at. c.loop-node.invariant i d (let end = c.loop-node-test.false in omega (arith, less, end)) at) refl
