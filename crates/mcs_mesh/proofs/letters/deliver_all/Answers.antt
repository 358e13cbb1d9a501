use Rattle.std.proofs.Common.{◌≡◌, ◌<◌, ◌∙◌, List, length, get_or, slice_get, rules, refl, subst, sym, Some}
use Rattle.std.proofs.lemmas.Option.{slice_get_within}
use Rattle.std.proofs.lemmas.Result.{err_from_is_err_and}
use Rattle.mcs_node.specs.Nodes.{NodeData}
use Rattle.mcs_mesh.specs.Players.{AreDelivered}
use Rattle.mcs_mesh.proofs.LetterLemmas.{all_delivered, fewer_left, handed_same, handing_begun, handing_more, next_expected, sender_read, sender_there, some_delivered}
use Rattle.mcs_mesh.proofs.letters.deliver_all.Goals as goal
use Rattle.mcs_base.proofs.Written.{set_back}

pub loop-letter-init : goal.loop-letter-init
loop-letter-init g c = record { handing = handing_begun c.args.i c.args.nodes.now c.requires; same = refl }

pub bounds-nodes-i : goal.bounds-nodes-i
bounds-nodes-i g c = sender_there c.args.i c.args.nodes.now c.loop-letter.nodes c.loop-letter.invariant.handing

pub offset_bounds-nodes-i : goal.offset_bounds-nodes-i
offset_bounds-nodes-i g c =
    let less : c.args.i < length c.args.nodes.now = slice_get_within c.args.nodes.now c.args.i c.requires.sender c.requires.is_its in
    search rules

-- ---- the letter that is handed out
pub deliver-requires : goal.deliver-requires
deliver-requires g c =
    let s = c.loop-letter.invariant.handing in
    let d : NodeData = get_or c.loop-letter.nodes c.args.i c.index-nodes-i.result in
    next_expected c.args.i c.args.nodes.now c.loop-letter.nodes c.requires s d (sender_read c.args.i c.args.nodes.now c.loop-letter.nodes s c.index-nodes-i.result) c.next_out.new.self c.in-Some.letter c.in-Some.ensures

pub loop-letter-smaller : goal.loop-letter-smaller
loop-letter-smaller g c =
    let s = c.loop-letter.invariant.handing in
    let d : NodeData = get_or c.loop-letter.nodes c.args.i c.index-nodes-i.result in
    fewer_left c.args.i c.args.nodes.now c.loop-letter.nodes c.requires s d (sender_read c.args.i c.args.nodes.now c.loop-letter.nodes s c.index-nodes-i.result) c.next_out.new.self c.in-Some.letter c.in-Some.ensures
    c.deliver.new.nodes c.in_ok-deliver.ensures.delivered

pub loop-letter-preserved : goal.loop-letter-preserved
loop-letter-preserved g c =
    let s = c.loop-letter.invariant.handing in
    let d : NodeData = get_or c.loop-letter.nodes c.args.i c.index-nodes-i.result in
    let at : slice_get c.loop-letter.nodes c.args.i ≡ Some d = sender_read c.args.i c.args.nodes.now c.loop-letter.nodes s c.index-nodes-i.result in record {
      handing = handing_more c.args.i c.args.nodes.now c.loop-letter.nodes c.requires s d at c.next_out.new.self c.in-Some.letter c.in-Some.ensures c.deliver.new.nodes c.in_ok-deliver.ensures.delivered;
      same = c.deliver.ensures.same ∙ handed_same c.args.i c.args.nodes.now c.loop-letter.nodes c.requires s d at c.next_out.new.self c.in-Some.letter c.in-Some.ensures ∙ c.loop-letter.invariant.same;
    }

pub returns-in_err-deliver-clause-some : goal.returns-in_err-deliver-clause-some
returns-in_err-deliver-clause-some g c =
    let s = c.loop-letter.invariant.handing in
    let d : NodeData = get_or c.loop-letter.nodes c.args.i c.index-nodes-i.result in
    let p = err_from_is_err_and c.from_residual.result c.from_residual.ensures.1 in
    rw (p.1)
    (some_delivered c.args.i c.args.nodes.now c.loop-letter.nodes c.requires s d (sender_read c.args.i c.args.nodes.now c.loop-letter.nodes s c.index-nodes-i.result) c.next_out.new.self c.in-Some.letter c.in-Some.ensures
    c.deliver.new.nodes c.deliver.ensures.taken)

pub returns-in_err-deliver-clause-same : goal.returns-in_err-deliver-clause-same
returns-in_err-deliver-clause-same g c =
    let s = c.loop-letter.invariant.handing in
    let d : NodeData = get_or c.loop-letter.nodes c.args.i c.index-nodes-i.result in
    c.deliver.ensures.same
    ∙ handed_same c.args.i c.args.nodes.now c.loop-letter.nodes c.requires s d (sender_read c.args.i c.args.nodes.now c.loop-letter.nodes s c.index-nodes-i.result) c.next_out.new.self c.in-Some.letter c.in-Some.ensures
    ∙ c.loop-letter.invariant.same

-- ---- none is left
pub returns-clause-delivered : goal.returns-clause-delivered
returns-clause-delivered g c =
    let s = c.loop-letter.invariant.handing in
    let d : NodeData = get_or c.loop-letter.nodes c.args.i c.index-nodes-i.result in
    let at : slice_get c.loop-letter.nodes c.args.i ≡ Some d = sender_read c.args.i c.args.nodes.now c.loop-letter.nodes s c.index-nodes-i.result in
    subst (λ (ns : List NodeData). AreDelivered c.args.i c.args.nodes.now ns) (sym (set_back c.loop-letter.nodes c.args.i d c.next_out.new.self at c.in_default.ensures.1))
    (all_delivered c.args.i c.args.nodes.now c.loop-letter.nodes c.requires s d at c.in_default.ensures.0)
