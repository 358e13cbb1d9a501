use Rattle.std.proofs.Common.{◌∙◌, ap, sym, Some, get_or}
use Rattle.std.proofs.lemmas.Option.{slice_get-get_or}
use Rattle.mcs_base.proofs.Lists.{slice_get_past_as, slice_get_read_as}
use Rattle.mcs_base.proofs.Written.{image_kept}
use Rattle.mcs_node.specs.Letters.{LetterData}
use Rattle.mcs_node.specs.Nodes.{NodeData}
use Rattle.mcs_mesh.specs.Players.{as_new}
use Rattle.mcs_mesh.proofs.ReplayLemmas.{all_received, none_receives, none_sent}
use Rattle.mcs_mesh.proofs.replay.deliver.Goals as goal

pub returns-in_default-clause-goes : goal.returns-in_default-clause-goes
returns-in_default-clause-goes g c = λ level total. none_sent level c.args.nodes.now c.args.letters.now.items total c.args.n
    (slice_get_past_as c.args.letters.now.items c.deref.result.now c.args.n c.deref.ensures.value c.in_default.ensures.lookup.3)

pub returns-then-to-nodes-clause-goes : goal.returns-then-to-nodes-clause-goes
returns-then-to-nodes-clause-goes g c = λ level total. none_receives level c.args.nodes.now c.args.letters.now.items total c.args.n c.in-Some.letter.now
    (slice_get_read_as c.args.letters.now.items c.deref.result.now c.args.n c.in-Some.letter.now c.deref.ensures.value c.in-Some.ensures.lookup.3.0 c.in-Some.ensures.lookup.1)
    (rw (← c.to-to.ensures) c.if-to-nodes.true)

pub returns-clause-goes : goal.returns-clause-goes
returns-clause-goes g c =
    let to = c.to-to.result in
    let d : NodeData = get_or c.args.nodes.now to c.index-nodes-to.result in
    let same = c.in_ok-copy.ensures in
    all_received c.args.nodes.now c.args.n to c.in_ok-copy.copy d c.receive.new.node c.args.letters.now.items c.receive.new.letters.items c.receive.result
    (slice_get_read_as c.args.letters.now.items c.deref.result.now c.args.n c.in-Some.letter.now c.deref.ensures.value c.in-Some.ensures.lookup.3.0 c.in-Some.ensures.lookup.1 ∙ ap (λ (l : LetterData). Some l) (sym same))
    (c.to-to.ensures ∙ ap (λ (l : LetterData). l.to) (sym same)) (slice_get-get_or c.args.nodes.now to c.index-nodes-to.result c.if-to-nodes.false) c.receive.ensures.receives

pub returns-clause-same : goal.returns-clause-same
returns-clause-same g c =
    let to = c.to-to.result in
    let d : NodeData = get_or c.args.nodes.now to c.index-nodes-to.result in
    image_kept as_new c.args.nodes.now to d c.receive.new.node (slice_get-get_or c.args.nodes.now to c.index-nodes-to.result c.if-to-nodes.false) c.receive.ensures.same
