use Rattle.std.proofs.Common.{◌≡◌, ◌∙◌, true, true≢false, refl, sym, arith}
use Rattle.std.proofs.lemmas.Option.{slice_get_within}
use Rattle.mcs_base.proofs.Booleans.{false_tells, true_tells}
use Rattle.mcs_base.proofs.Lists.{slice_get_read_as}
use Rattle.mcs_node.specs.Nodes.{NodeData}
use Rattle.mcs_mesh.proofs.ReplayLemmas.{one_place_more}
use Rattle.mcs_mesh.proofs.replay.are_all_done.Goals as goal

pub loop-node-init : goal.loop-node-init
loop-node-init g c = λ i d less at. absurd (omega (arith, less))

pub loop-node-preserved : goal.loop-node-preserved
loop-node-preserved g c =
    let nodes = c.args.nodes.now in
    let k = c.loop-node.node-index in
    one_place_more (λ (z : NodeData). z.state.done ≡ true) nodes k c.node-item.result (slice_get_read_as nodes nodes k c.node-item.result refl c.loop-node-test.true c.node-item.is)
    (sym c.is_done.ensures ∙ c.if-not-is_done.false) c.loop-node.invariant

pub returns-then-not-is_done : goal.returns-then-not-is_done
returns-then-not-is_done g c =
    let nodes = c.args.nodes.now in
    let k = c.loop-node.node-index in
    let d : NodeData = c.node-item.result in
    false_tells (λ all. true≢false (sym (all k d (slice_get_read_as nodes nodes k d refl c.loop-node-test.true c.node-item.is)) ∙ sym c.is_done.ensures ∙ c.if-not-is_done.true))

pub returns : goal.returns
returns g c = true_tells (λ i d at. c.loop-node.invariant i d (let less = slice_get_within c.args.nodes.now i d at in let end = c.loop-node-test.false in omega (arith, less, end)) at)
