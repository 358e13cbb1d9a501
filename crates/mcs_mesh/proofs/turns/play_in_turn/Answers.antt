use Rattle.std.proofs.Common.{◌≡◌, ◌∙◌, map, get_or, slice_get, slice_set, Some}
use Rattle.std.proofs.lemmas.Result.{err_from_is_err_and}
use Rattle.std.proofs.lemmas.Option.{slice_get-get_or}
use Rattle.mcs_states.specs.declared.halt.Halt.TheVariants.{Memory}
use Rattle.mcs_node.specs.Nodes.{NodeData}
use Rattle.mcs_mesh.specs.Players.{as_new}
use Rattle.mcs_mesh.proofs.LeavingLemmas.{delivery_sound, grant_sound, in_play_sound, some_begun_sound}
use Rattle.mcs_mesh.proofs.PlayLemmas.{can_begin, grant_stopped, here_below, letters_expected, play_begun, play_ended, play_more, play_stopped, waits_for_grant}
use Rattle.mcs_mesh.proofs.turns.play_in_turn.Goals as goal
use Rattle.mcs_base.proofs.Written.{image_kept}

-- ---- the begin
pub begin_all-requires : goal.begin_all-requires
begin_all-requires g c = let (budget, ready) = c.requires.ready in can_begin c.args.plan.now c.args.level budget c.args.asked c.args.nodes.now ready

pub loop-i-init : goal.loop-i-init
loop-i-init g c = λ budget ready.
    play_begun c.args.plan.now c.args.level budget c.args.asked c.args.nodes.now ready c.begin_all.new.nodes c.in_ok-begin_all.ensures.begun c.in_ok-begin_all.ensures.same

pub returns-in_err-begin_all-clause-left : goal.returns-in_err-begin_all-clause-left
returns-in_err-begin_all-clause-left g c = λ budget ready. some_begun_sound c.args.plan.now c.args.level budget c.args.asked c.args.nodes.now ready c.begin_all.new.nodes c.begin_all.ensures.same c.in_err-begin_all.ensures.some

-- ---- the next context
pub grant_need-requires-clause-waits : goal.grant_need-requires-clause-waits
grant_need-requires-clause-waits g c =
    let (budget, ready) = c.requires.ready in
    let order = c.order-i-items.result.now in
    let nodes = c.loop-i.nodes in
    let here = get_or order c.loop-i.i-index 0 in
    let s = c.loop-i.invariant budget ready in
    let low = here_below c.args.plan.now c.args.level budget c.args.asked c.args.nodes.now ready order c.order-i-items.ensures.order c.loop-i.i-index c.loop-i-test.true nodes c.loop-i.total s in
    waits_for_grant c.args.plan.now c.args.level budget c.args.asked c.args.nodes.now ready order c.order-i-items.ensures.order c.loop-i.i-index c.loop-i-test.true nodes c.loop-i.total s
    (get_or nodes here c.index-nodes-i.result) (slice_get-get_or nodes here c.index-nodes-i.result low)

pub returns-in_err-total-clause-played : goal.returns-in_err-total-clause-played
returns-in_err-total-clause-played g c = λ budget ready.
    let order = c.order-i-items.result.now in
    let nodes = c.loop-i.nodes in
    let here = get_or order c.loop-i.i-index 0 in
    let s = c.loop-i.invariant budget ready in
    let d : NodeData = get_or nodes here c.index-nodes-i.result in
    let at : slice_get nodes here ≡ Some d = slice_get-get_or nodes here c.index-nodes-i.result
    (here_below c.args.plan.now c.args.level budget c.args.asked c.args.nodes.now ready order c.order-i-items.ensures.order c.loop-i.i-index c.loop-i-test.true nodes c.loop-i.total s) in
    let p = err_from_is_err_and c.from_residual-in_err-total.result c.from_residual-in_err-total.ensures.1 in
    rw (p.1, p.2)
    (play_stopped c.args.plan.now c.args.level budget c.args.asked c.args.nodes.now ready (slice_set nodes here c.grant_need.new.node) c.in_err-total.field-0.0
    (image_kept as_new nodes here d c.grant_need.new.node at c.grant_need.ensures.same ∙ s.same)
    (grant_stopped c.args.plan.now c.args.level budget c.args.asked c.args.nodes.now ready order c.order-i-items.ensures.order c.loop-i.i-index c.loop-i-test.true nodes c.loop-i.total s d at c.in_err-total.field-0.0 c.in_err-total.ensures.cause))

pub returns-in_err-total-clause-left : goal.returns-in_err-total-clause-left
returns-in_err-total-clause-left g c = λ budget ready.
    let order = c.order-i-items.result.now in
    let nodes = c.loop-i.nodes in
    let here = get_or order c.loop-i.i-index 0 in
    let s = c.loop-i.invariant budget ready in
    let d : NodeData = get_or nodes here c.index-nodes-i.result in
    let at : slice_get nodes here ≡ Some d = slice_get-get_or nodes here c.index-nodes-i.result
    (here_below c.args.plan.now c.args.level budget c.args.asked c.args.nodes.now ready order c.order-i-items.ensures.order c.loop-i.i-index c.loop-i-test.true nodes c.loop-i.total s) in
    grant_sound c.args.plan.now c.args.level budget c.args.asked c.args.nodes.now ready order c.order-i-items.ensures.order c.loop-i.i-index nodes c.loop-i.total s c.loop-i-test.true d at
    c.grant_need.new.node c.grant_need.ensures.same c.in_err-total.ensures.stopped (image_kept as_new nodes here d c.grant_need.new.node at c.grant_need.ensures.same ∙ s.same)

-- ---- its letters
pub deliver_all-requires : goal.deliver_all-requires
deliver_all-requires g c =
    let (budget, ready) = c.requires.ready in
    let order = c.order-i-items.result.now in
    let nodes = c.loop-i.nodes in
    let here = get_or order c.loop-i.i-index 0 in
    let s = c.loop-i.invariant budget ready in
    let low = here_below c.args.plan.now c.args.level budget c.args.asked c.args.nodes.now ready order c.order-i-items.ensures.order c.loop-i.i-index c.loop-i-test.true nodes c.loop-i.total s in
    letters_expected c.args.plan.now c.args.level budget c.args.asked c.args.nodes.now ready order c.order-i-items.ensures.order c.loop-i.i-index c.loop-i-test.true nodes c.loop-i.total s
    (get_or nodes here c.index-nodes-i.result) (slice_get-get_or nodes here c.index-nodes-i.result low) c.in_ok-total.total c.grant_need.new.node c.in_ok-total.ensures.done c.grant_need.ensures.same

pub returns-in_err-deliver_all-clause-played : goal.returns-in_err-deliver_all-clause-played
returns-in_err-deliver_all-clause-played g c = λ budget ready.
    let order = c.order-i-items.result.now in
    let nodes = c.loop-i.nodes in
    let here = get_or order c.loop-i.i-index 0 in
    let s = c.loop-i.invariant budget ready in
    let d : NodeData = get_or nodes here c.index-nodes-i.result in
    let at : slice_get nodes here ≡ Some d = slice_get-get_or nodes here c.index-nodes-i.result
    (here_below c.args.plan.now c.args.level budget c.args.asked c.args.nodes.now ready order c.order-i-items.ensures.order c.loop-i.i-index c.loop-i-test.true nodes c.loop-i.total s) in
    let p = err_from_is_err_and c.from_residual-in_err-deliver_all.result c.from_residual-in_err-deliver_all.ensures.1 in
    rw (p.1, p.2, c.in_err-deliver_all.ensures.cause)
    (play_stopped c.args.plan.now c.args.level budget c.args.asked c.args.nodes.now ready c.deliver_all.new.nodes Memory
    (c.deliver_all.ensures.same ∙ image_kept as_new nodes here d c.grant_need.new.node at c.grant_need.ensures.same ∙ s.same) tt)

pub returns-in_err-deliver_all-clause-left : goal.returns-in_err-deliver_all-clause-left
returns-in_err-deliver_all-clause-left g c = λ budget ready.
    let order = c.order-i-items.result.now in
    let nodes = c.loop-i.nodes in
    let here = get_or order c.loop-i.i-index 0 in
    let s = c.loop-i.invariant budget ready in
    let d : NodeData = get_or nodes here c.index-nodes-i.result in
    let at : slice_get nodes here ≡ Some d = slice_get-get_or nodes here c.index-nodes-i.result
    (here_below c.args.plan.now c.args.level budget c.args.asked c.args.nodes.now ready order c.order-i-items.ensures.order c.loop-i.i-index c.loop-i-test.true nodes c.loop-i.total s) in
    let same : map as_new (slice_set nodes here c.grant_need.new.node) ≡ map as_new c.args.nodes.now = image_kept as_new nodes here d c.grant_need.new.node at c.grant_need.ensures.same ∙ s.same in
    delivery_sound c.args.plan.now c.args.level budget c.args.asked c.args.nodes.now ready order c.order-i-items.ensures.order c.loop-i.i-index nodes c.loop-i.total s c.loop-i-test.true d at
    c.in_ok-total.total c.grant_need.new.node c.in_ok-total.ensures.done c.grant_need.ensures.same same c.deliver_all.new.nodes (c.deliver_all.ensures.same ∙ same) c.in_err-deliver_all.ensures.some

pub loop-i-preserved : goal.loop-i-preserved
loop-i-preserved g c = λ budget ready.
    let order = c.order-i-items.result.now in
    let nodes = c.loop-i.nodes in
    let here = get_or order c.loop-i.i-index 0 in
    let s = c.loop-i.invariant budget ready in
    let low = here_below c.args.plan.now c.args.level budget c.args.asked c.args.nodes.now ready order c.order-i-items.ensures.order c.loop-i.i-index c.loop-i-test.true nodes c.loop-i.total s in
    play_more c.args.plan.now c.args.level budget c.args.asked c.args.nodes.now ready order c.order-i-items.ensures.order c.loop-i.i-index c.loop-i-test.true nodes c.loop-i.total s
    (get_or nodes here c.index-nodes-i.result) (slice_get-get_or nodes here c.index-nodes-i.result low) c.in_ok-total.total c.grant_need.new.node c.in_ok-total.ensures.done c.grant_need.ensures.same
    c.deliver_all.new.nodes c.in_ok-deliver_all.ensures.delivered c.deliver_all.ensures.same

-- ---- the end
pub returns-clause-played : goal.returns-clause-played
returns-clause-played g c = λ budget ready.
    play_ended c.args.plan.now c.args.level budget c.args.asked c.args.nodes.now ready c.order-i-items.result.now c.order-i-items.ensures.order c.loop-i.i-index c.loop-i-test.false c.loop-i.nodes c.loop-i.total (c.loop-i.invariant budget ready)

pub returns-clause-left : goal.returns-clause-left
returns-clause-left g c = λ budget ready.
    in_play_sound c.args.plan.now c.args.level budget c.args.asked c.args.nodes.now ready c.order-i-items.result.now c.order-i-items.ensures.order c.loop-i.i-index c.loop-i.nodes c.loop-i.total (c.loop-i.invariant budget ready)

pub returns-in_err-begin_all-clause-played : goal.returns-in_err-begin_all-clause-played
returns-in_err-begin_all-clause-played g c = λ budget ready.
    let p = err_from_is_err_and c.from_residual.result c.from_residual.ensures.1 in
    rw (p.1, p.2) (play_stopped c.args.plan.now c.args.level budget c.args.asked c.args.nodes.now ready c.begin_all.new.nodes Memory c.begin_all.ensures.same tt)

pub bounds-nodes-i : goal.bounds-nodes-i
bounds-nodes-i g c =
    let (budget, ready) = c.requires.ready in
    let less = here_below c.args.plan.now c.args.level budget c.args.asked c.args.nodes.now ready c.order-i-items.result.now c.order-i-items.ensures.order c.loop-i.i-index c.loop-i-test.true c.loop-i.nodes c.loop-i.total (c.loop-i.invariant budget ready) in
    less

pub grant_need-requires-clause-asks : goal.grant_need-requires-clause-asks
grant_need-requires-clause-asks g c = c.requires.asks
