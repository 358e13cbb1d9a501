use Rattle.std.proofs.Common.{List, ◌++◌, ◌∙◌, ap, subst}
use Rattle.std.proofs.lemmas.List.{take_all}
use Rattle.mcs_base.specs.Listings.{IsAmong}
use Rattle.mcs_table.specs.declared.row.Row.{Row}
use Rattle.mcs_table.specs.Tables.{Covers}
use Rattle.mcs_rows.specs.Nearest.{IsRowOfOne}
use Rattle.mcs_rows.specs.declared.nearest.Supported.{Supported}
use Rattle.mcs_rows.proofs.NearestLemmas.{one_more}
use Rattle.mcs_rows.proofs.minimal.rows_at.Goals as goal

pub loop-one-preserved : goal.loop-one-preserved
loop-one-preserved c =
    one_more c.args.system.now c.args.i c.args.reach.now.level c.args.reach.now.known.now c.args.state c.args.all.now c.loop-one.one-index c.one-item.result c.loop-one-test.true c.one-item.is c.loop-one.rows.items c.in_ok-some.some.items _
    c.loop-one.invariant c.in_ok-some.ensures (c.in_ok-extend_from_slice.ensures.items ∙ ap (λ (rows : List Row). c.loop-one.rows.items ++ rows) c.deref.ensures.value)

pub returns : goal.returns
returns c = subst (λ (all : List Supported). Covers (λ r. IsAmong r c.loop-one.rows.items) (IsRowOfOne c.args.system.now c.args.i c.args.reach.now.level c.args.reach.now.known.now c.args.state all)) (take_all c.loop-one.one-index c.args.all.now c.loop-one-test.false) c.loop-one.invariant
