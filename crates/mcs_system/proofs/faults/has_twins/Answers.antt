use Rattle.std.proofs.Common.{arith, sym, ◌∙◌}
use Rattle.std.proofs.lemmas.Grind.{common_steps}
use Rattle.mcs_system.proofs.Twins.{none_seen, next_named, seen_twin, seen_next}
use Rattle.mcs_system.proofs.faults.has_twins.Goals as goal

pub loop-item-init : goal.loop-item-init
loop-item-init g c = grind (arith, common_steps, none_seen, c.new-seen.ensures.empty)

pub returns-then-not-branch : goal.returns-then-not-branch
returns-then-not-branch g c =
    let next = next_named g.T.HasName.named c.args.items.now c.loop-item.item-index c.item-item.result _ c.loop-item-test.true c.item-item.is c.name_bytes.ensures in
    sym (c.loop-item.invariant ∙ seen_twin _ c.name_bytes.result _ _ _ next c.in_ok-insert.ensures.added c.if-not-branch.true)

pub loop-item-preserved : goal.loop-item-preserved
loop-item-preserved g c =
    let next = next_named g.T.HasName.named c.args.items.now c.loop-item.item-index c.item-item.result _ c.loop-item-test.true c.item-item.is c.name_bytes.ensures in
    c.loop-item.invariant ∙ seen_next _ _ c.name_bytes.result _ _ _ next c.in_ok-insert.ensures.keys c.in_ok-insert.ensures.added c.if-not-branch.false
