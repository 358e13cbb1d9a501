use Rattle.std.proofs.Common.{◌≡◌, false, refl, arith}
use Rattle.std.proofs.lemmas.Option.{slice_get_within}
use Rattle.mcs_base.proofs.Lists.{slice_get_read_as}
use Rattle.mcs_node.specs.Nodes.{NodeData}
use Rattle.mcs_mesh.proofs.ReplayLemmas.{one_place_more}
use Rattle.mcs_crew.proofs.RoundLemmas.{lowest_at, lowest_none}
use Rattle.mcs_crew.proofs.ending.lowest_halt.Goals as goal

pub returns-in-Some-clause-halt : goal.returns-in-Some-clause-halt
returns-in-Some-clause-halt g c =
    let nodes = c.args.nodes.now in
    let k = c.loop-node.node-index in
    let some = c.in-Some.ensures.some in
    lowest_at nodes k c.node-item.result c.in-Some.halt (slice_get_read_as nodes nodes k c.node-item.result refl c.loop-node-test.true c.node-item.is) some.0 some.1 c.loop-node.invariant

pub returns-in-Some-clause-node : goal.returns-in-Some-clause-node
returns-in-Some-clause-node g c =
    let nodes = c.args.nodes.now in
    let k = c.loop-node.node-index in
    let some = c.in-Some.ensures.some in
    (k, c.node-item.result, slice_get_read_as nodes nodes k c.node-item.result refl c.loop-node-test.true c.node-item.is, c.in-Some.ensures.node, some.0, some.1)

pub loop-node-preserved : goal.loop-node-preserved
loop-node-preserved g c =
    let nodes = c.args.nodes.now in
    let k = c.loop-node.node-index in
    one_place_more (λ (z : NodeData). z.state.by_itself ≡ false) nodes k c.node-item.result (slice_get_read_as nodes nodes k c.node-item.result refl c.loop-node-test.true c.node-item.is)
    c.in_default.ensures.none c.loop-node.invariant

pub returns-clause-halt : goal.returns-clause-halt
returns-clause-halt g c =
    let nodes = c.args.nodes.now in
    lowest_none nodes (λ i d at. c.loop-node.invariant i d (let within = slice_get_within nodes i d at in let end = c.loop-node-test.false in omega (arith, within, end)) at)
