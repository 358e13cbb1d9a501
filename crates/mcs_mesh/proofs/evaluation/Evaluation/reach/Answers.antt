use Rattle.std.proofs.Common.{◌∙◌, subst}
use Rattle.std.specs.Arc.{arc_value}
use Rattle.mcs_states.specs.Evaluators.{HasDone}
use Rattle.mcs_mesh.specs.Rounds.{EvaluationData}
use Rattle.mcs_mesh.proofs.MeshLemmas.{again_done, lasting_done, lasting_kept, other_level}
use Rattle.mcs_mesh.proofs.evaluation.Evaluation.reach.Goals as goal

pub returns-then-is_reached-clause-done : goal.returns-then-is_reached-clause-done
returns-then-is_reached-clause-done g c = let (d, is, less) = c.is_reached.ensures.yes c.if-is_reached.true in
    subst (λ (e : EvaluationData). HasDone c.args.self.now.state e.state c.args.level) c.self.view_is
    (again_done (g.P.Player.workers c.self.inside.player) (arc_value c.self.inside.plan) c.self.inside.budget c.self.inside.done c.self.inside.halt c.self.inside.replayed c.self.inside.level (g.P.Over.NodeList.seen c.self.inside.nodes) c.self.inside.asked c.self.invariant.0 c.args.self.now c.self.view_is d c.args.level c.requires is less)

pub returns-then-is_left_out-clause-done : goal.returns-then-is_left_out-clause-done
returns-then-is_left_out-clause-done g c = lasting_done (g.P.Player.workers c.self.inside.player) (arc_value c.self.inside.plan) c.self.inside.budget c.self.inside.done c.self.inside.halt c.self.inside.replayed c.self.inside.level (g.P.Over.NodeList.seen c.self.inside.nodes) c.self.inside.asked c.self.invariant.0 c.args.self.now c.self.view_is
    c.args.level c.requires (c.is_reached.ensures.not c.if-is_reached.false) c.system.result.now (c.system.ensures ∙ c.deref.ensures) (c.is_left_out.ensures.done c.if-is_left_out.true)

pub invariant_of-self : goal.invariant_of-self
invariant_of-self g c = (
  lasting_kept (g.P.Player.workers c.self.inside.player) (arc_value c.self.inside.plan) c.self.inside.budget c.self.inside.done c.self.inside.halt c.self.inside.replayed c.self.inside.level (g.P.Over.NodeList.seen c.self.inside.nodes) c.self.inside.asked c.self.invariant.0 c.args.self.now c.self.view_is
      c.args.level c.requires (c.is_reached.ensures.not c.if-is_reached.false) c.system.result.now (c.system.ensures ∙ c.deref.ensures) (c.is_left_out.ensures.done c.if-is_left_out.true),
  c.self.invariant.1,
  c.self.invariant.2,
  c.self.invariant.3,
  λ plays none. other_level (arc_value c.self.inside.plan) c.system.result.now c.args.level c.self.inside.level (c.system.ensures ∙ c.deref.ensures) (c.is_left_out.ensures.last c.if-is_left_out.true plays),
  c.self.invariant.5,
  c.self.invariant.6,
  λ plays none. absurd (c.is_left_out.ensures.each c.if-is_left_out.true plays),
)
