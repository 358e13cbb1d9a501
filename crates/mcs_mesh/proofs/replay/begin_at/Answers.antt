use Rattle.std.proofs.Common.{get_or}
use Rattle.std.proofs.lemmas.Option.{slice_get-get_or}
use Rattle.mcs_node.specs.Nodes.{NodeData}
use Rattle.mcs_mesh.specs.Players.{as_new}
use Rattle.mcs_mesh.proofs.ReplayLemmas.{all_begun, none_begins}
use Rattle.mcs_mesh.proofs.replay.begin_at.Goals as goal
use Rattle.mcs_base.proofs.Written.{image_kept}

pub returns-then-here-nodes-clause-goes : goal.returns-then-here-nodes-clause-goes
returns-then-here-nodes-clause-goes g c = λ letters total. none_begins c.args.level c.args.nodes.now letters total c.args.i c.if-here-nodes.true

pub begin_node-requires : goal.begin_node-requires
begin_node-requires g c =
    let d : NodeData = get_or c.args.nodes.now c.args.i c.index-nodes-here.result in
    c.requires c.args.i d (slice_get-get_or c.args.nodes.now c.args.i c.index-nodes-here.result c.if-here-nodes.false)

pub returns-clause-goes : goal.returns-clause-goes
returns-clause-goes g c =
    let d : NodeData = get_or c.args.nodes.now c.args.i c.index-nodes-here.result in
    all_begun c.args.level c.args.nodes.now c.args.i d c.begin_node.new.node (slice_get-get_or c.args.nodes.now c.args.i c.index-nodes-here.result c.if-here-nodes.false) c.begin_node.result c.begin_node.ensures.begins

pub returns-clause-same : goal.returns-clause-same
returns-clause-same g c =
    let d : NodeData = get_or c.args.nodes.now c.args.i c.index-nodes-here.result in
    image_kept as_new c.args.nodes.now c.args.i d c.begin_node.new.node (slice_get-get_or c.args.nodes.now c.args.i c.index-nodes-here.result c.if-here-nodes.false) c.begin_node.ensures.same
