use Rattle.std.proofs.Common.{sym, ap, ◌∙◌}
use Rattle.std.proofs.lemmas.List.Edits.{map_over_more}
use Rattle.std.proofs.Math.ListN.{set}
use Rattle.mcs_import.specs.Reach.{through}
use Rattle.mcs_import.proofs.reach.pass_through.Goals as goal

pub loop-row-preserved : goal.loop-row-preserved
loop-row-preserved c =
    ap (set c.loop-row.row-items c.loop-row.row-index) (c.passed.ensures ∙ ap (through c.args.k c.index-rows-k.result) (sym c.row-item.is))
    ∙ map_over_more (through c.args.k c.index-rows-k.result) c.args.rows.now c.loop-row.row-items c.loop-row.row-index c.row-item.result c.loop-row-test.true c.loop-row.invariant c.row-item.is
