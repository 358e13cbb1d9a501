use Rattle.std.proofs.Common.{ℕ, List, ◌++◌, ◌∙◌, ap, subst}
use Rattle.std.proofs.lemmas.List.{take_all}
use Rattle.mcs_base.specs.Antichains.{HasOneWithin}
use Rattle.mcs_base.specs.Listings.{IsAmong}
use Rattle.mcs_table.specs.declared.row.Row.{Row}
use Rattle.mcs_table.specs.Tables.{Covers}
use Rattle.mcs_rows.specs.Nearest.{IsRowIn}
use Rattle.mcs_rows.proofs.NearestLemmas.{covers_none, known_none, state_more}
use Rattle.mcs_rows.proofs.minimal.rows_in.Goals as goal

pub returns-then-hold_known : goal.returns-then-hold_known
returns-then-hold_known c =
    covers_none (IsRowIn c.args.system.now c.args.i c.args.reach.now.level c.args.reach.now.known.now c.args.states.now c.args.all.now) _ c.new-rows.ensures.items
    (known_none c.args.system.now c.args.i c.args.reach.now.level c.args.reach.now.known.now c.args.states.now c.args.all.now
    (subst (HasOneWithin c.args.reach.now.known.now) c.empty.ensures (c.hold_known.ensures.0 c.if-hold_known.true)))

pub loop-state-preserved : goal.loop-state-preserved
loop-state-preserved c =
    state_more c.args.system.now c.args.i c.args.reach.now.level c.args.reach.now.known.now c.args.states.now c.args.all.now c.loop-state.state-index c.state-item.result c.loop-state-test.true c.state-item.is c.loop-state.rows.items c.in_ok-some.some.items _
    c.loop-state.invariant c.in_ok-some.ensures (c.in_ok-extend_from_slice.ensures.items ∙ ap (λ (rows : List Row). c.loop-state.rows.items ++ rows) c.deref.ensures.value)

pub returns : goal.returns
returns c = subst (λ (states : List ℕ). Covers (λ r. IsAmong r c.loop-state.rows.items) (IsRowIn c.args.system.now c.args.i c.args.reach.now.level c.args.reach.now.known.now states c.args.all.now)) (take_all c.loop-state.state-index c.args.states.now c.loop-state-test.false) c.loop-state.invariant
