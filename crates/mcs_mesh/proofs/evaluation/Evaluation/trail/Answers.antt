use Rattle.std.specs.Arc.{arc_value}
use Rattle.std.specs.Option.{option_copied}
use Rattle.mcs_mesh.proofs.MeshLemmas.{left_shown, left_unshown}
use Rattle.mcs_mesh.proofs.evaluation.Evaluation.trail.Goals as goal

pub returns-clause-shown : goal.returns-clause-shown
returns-clause-shown g c = left_shown (g.P.Player.workers c.self.inside.player) (arc_value c.self.inside.plan) c.self.inside.budget c.self.inside.done c.self.inside.halt c.self.inside.replayed c.self.inside.level (g.P.Over.NodeList.seen c.self.inside.nodes) c.self.inside.asked c.self.invariant.0 c.args.self.now c.self.view_is g.P.Player.leaves c.self.inside.trail (option_copied c.as_ref.result) c.as_ref.ensures.value c.self.invariant.3

pub returns-clause-unshown : goal.returns-clause-unshown
returns-clause-unshown g c = left_unshown (g.P.Player.workers c.self.inside.player) (arc_value c.self.inside.plan) c.self.inside.budget c.self.inside.done c.self.inside.halt c.self.inside.replayed c.self.inside.level (g.P.Over.NodeList.seen c.self.inside.nodes) c.self.inside.asked c.self.invariant.0 c.args.self.now c.self.view_is c.self.inside.trail (option_copied c.as_ref.result) c.as_ref.ensures.value c.self.invariant.6
