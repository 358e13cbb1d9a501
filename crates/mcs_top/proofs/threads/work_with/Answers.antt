use Rattle.std.proofs.Common.{◌∙◌, sym}
use Rattle.std.specs.Arc.{arc_value}
use Rattle.mcs_mesh.specs.Players.{oracles_of}
use Rattle.mcs_top.proofs.TrailLemmas.{not_each}
use Rattle.mcs_top.proofs.threads.work_with.Goals as goal

pub returns-then-plays_each : goal.returns-then-plays_each
returns-then-plays_each g c = rw (sym c.plays_each.ensures ∙ c.if-plays_each.true) (rw c.new.ensures at c.work_by.ensures)

pub returns-else-plays_each : goal.returns-else-plays_each
returns-else-plays_each g c = rw (sym c.plays_each.ensures ∙ c.if-plays_each.false)
    (not_each (g.P.Player.leaves (g.P.Player.workers c.args.player)) g.P.Player.plays_last g.P.Player.plays_each (g.P.Player.workers c.args.player) c.args.task (arc_value c.args.system) c.args.beginning.budget (oracles_of (g.P.Over.NodeList.seen c.args.beginning.nodes))
    _ _ _ _ _ c.work_by-else-plays_each.ensures)
