use Rattle.std.proofs.Common.{get_or}
use Rattle.std.proofs.lemmas.Option.{slice_get-get_or}
use Rattle.mcs_node.specs.Nodes.{NodeData}
use Rattle.mcs_mesh.specs.Players.{as_new}
use Rattle.mcs_mesh.proofs.ReplayLemmas.{all_granted, none_granted}
use Rattle.mcs_mesh.proofs.replay.grant_at.Goals as goal
use Rattle.mcs_base.proofs.Written.{image_kept}

pub returns-then-place-nodes-clause-goes : goal.returns-then-place-nodes-clause-goes
returns-then-place-nodes-clause-goes g c = λ level. none_granted level c.args.nodes.now c.args.letters.now.items c.args.total.now c.args.i c.if-place-nodes.true

pub returns-clause-goes : goal.returns-clause-goes
returns-clause-goes g c =
    let d : NodeData = get_or c.args.nodes.now c.args.i c.index-nodes-place.result in
    all_granted c.args.nodes.now c.args.i d c.grant_node.new.node c.args.letters.now.items c.grant_node.new.letters.items c.args.total.now c.grant_node.new.total c.grant_node.result
    (slice_get-get_or c.args.nodes.now c.args.i c.index-nodes-place.result c.if-place-nodes.false) c.grant_node.ensures.grants

pub returns-clause-same : goal.returns-clause-same
returns-clause-same g c =
    let d : NodeData = get_or c.args.nodes.now c.args.i c.index-nodes-place.result in
    image_kept as_new c.args.nodes.now c.args.i d c.grant_node.new.node (slice_get-get_or c.args.nodes.now c.args.i c.index-nodes-place.result c.if-place-nodes.false) c.grant_node.ensures.same
