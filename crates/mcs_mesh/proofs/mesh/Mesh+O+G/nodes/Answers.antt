use Rattle.std.specs.Arc.{arc_value}
use Rattle.mcs_mesh.proofs.MeshLemmas.{last_round}
use Rattle.mcs_mesh.proofs.mesh.Mesh+O+G.nodes.Goals as goal

pub returns-clause-round : goal.returns-clause-round
returns-clause-round g c = last_round 1 (arc_value c.self.inside.plan) c.self.inside.budget c.self.inside.done c.self.inside.halt c.self.inside.replayed c.self.inside.level c.self.inside.nodes.list.items c.self.inside.asked c.self.invariant.0 c.args.self.now c.self.view_is (λ level at. let (trail, is, total, left, ended) = c.self.invariant.3 level at in left)
