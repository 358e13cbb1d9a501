use Rattle.std.proofs.Common.{refl}
use Rattle.std.specs.Arc.{arc_value}
use Rattle.mcs_mesh.proofs.MeshLemmas.{left_each, left_halt, left_last, left_nodes, left_oracles, left_reaches, left_shown, left_unshown}
use Rattle.mcs_mesh.proofs.evaluation.Evaluation.into_parts.Goals as goal

pub returns-clause-oracles : goal.returns-clause-oracles
returns-clause-oracles g c = left_oracles (g.P.Player.workers c.self.inside.player) (arc_value c.self.inside.plan) c.self.inside.budget c.self.inside.done c.self.inside.halt c.self.inside.replayed c.self.inside.level (g.P.Over.NodeList.seen c.self.inside.nodes) c.self.inside.asked c.self.invariant.0 c.args.self c.self.view_is

pub returns-clause-own : goal.returns-clause-own
returns-clause-own g c = left_nodes (g.P.Player.workers c.self.inside.player) (arc_value c.self.inside.plan) c.self.inside.budget c.self.inside.done c.self.inside.halt c.self.inside.replayed c.self.inside.level (g.P.Over.NodeList.seen c.self.inside.nodes) c.self.inside.asked c.self.invariant.0 c.args.self c.self.view_is

pub returns-clause-last : goal.returns-clause-last
returns-clause-last g c = left_last (g.P.Player.workers c.self.inside.player) (arc_value c.self.inside.plan) c.self.inside.budget c.self.inside.done c.self.inside.halt c.self.inside.replayed c.self.inside.level (g.P.Over.NodeList.seen c.self.inside.nodes) c.self.inside.asked c.self.invariant.0 c.args.self c.self.view_is

pub returns-clause-reaches : goal.returns-clause-reaches
returns-clause-reaches g c = λ plays. left_reaches (g.P.Player.workers c.self.inside.player) (arc_value c.self.inside.plan) c.self.inside.budget c.self.inside.done c.self.inside.halt c.self.inside.replayed c.self.inside.level (g.P.Over.NodeList.seen c.self.inside.nodes) c.self.inside.asked c.self.invariant.0 c.args.self c.self.view_is (c.self.invariant.4 plays)

pub returns-clause-each : goal.returns-clause-each
returns-clause-each g c = λ plays. left_each (g.P.Player.workers c.self.inside.player) (arc_value c.self.inside.plan) c.self.inside.budget c.self.inside.done c.self.inside.halt c.self.inside.replayed c.self.inside.level (g.P.Over.NodeList.seen c.self.inside.nodes) c.self.inside.asked c.self.invariant.0 c.args.self c.self.view_is (c.self.invariant.7 plays)

pub returns-clause-halt : goal.returns-clause-halt
returns-clause-halt g c = left_halt (g.P.Player.workers c.self.inside.player) (arc_value c.self.inside.plan) c.self.inside.budget c.self.inside.done c.self.inside.halt c.self.inside.replayed c.self.inside.level (g.P.Over.NodeList.seen c.self.inside.nodes) c.self.inside.asked c.self.invariant.0 c.args.self c.self.view_is c.self.invariant.5

pub returns-clause-shown : goal.returns-clause-shown
returns-clause-shown g c = left_shown (g.P.Player.workers c.self.inside.player) (arc_value c.self.inside.plan) c.self.inside.budget c.self.inside.done c.self.inside.halt c.self.inside.replayed c.self.inside.level (g.P.Over.NodeList.seen c.self.inside.nodes) c.self.inside.asked c.self.invariant.0 c.args.self c.self.view_is g.P.Player.leaves c.self.inside.trail c.self.inside.trail refl c.self.invariant.3

pub returns-clause-unshown : goal.returns-clause-unshown
returns-clause-unshown g c = left_unshown (g.P.Player.workers c.self.inside.player) (arc_value c.self.inside.plan) c.self.inside.budget c.self.inside.done c.self.inside.halt c.self.inside.replayed c.self.inside.level (g.P.Over.NodeList.seen c.self.inside.nodes) c.self.inside.asked c.self.invariant.0 c.args.self c.self.view_is c.self.inside.trail c.self.inside.trail refl c.self.invariant.6
