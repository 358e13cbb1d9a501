use Rattle.std.specs.Arc.{arc_value}
use Rattle.mcs_mesh.proofs.MeshLemmas.{asked_is}
use Rattle.mcs_mesh.proofs.evaluation.EvaluationEvaluator.asked.Goals as goal

pub returns : goal.returns
returns g c = asked_is (g.P.Player.workers c.self.inside.player) (arc_value c.self.inside.plan) c.self.inside.budget c.self.inside.done c.self.inside.halt c.self.inside.replayed c.self.inside.level (g.P.Over.NodeList.seen c.self.inside.nodes) c.self.inside.asked c.self.invariant.0 c.args.self.now c.self.view_is
