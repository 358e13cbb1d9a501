use Rattle.std.proofs.Common.{refl, rules}
use Rattle.std.proofs.lemmas.Option.{none-some}
use Rattle.std.specs.Arc.{arc_value}
use Rattle.mcs_mesh.specs.Players.{oracles_of}
use Rattle.mcs_mesh.proofs.MeshLemmas.{fresh}
use Rattle.mcs_mesh.proofs.evaluation.Evaluation.played_by.Goals as goal

pub invariant_of-result : goal.invariant_of-result
invariant_of-result g c = (
  fresh (g.P.Player.workers c.args.player) (arc_value c.args.plan) c.args.budget (oracles_of (g.P.Over.NodeList.seen c.args.nodes)) (g.P.Over.NodeList.seen c.args.nodes) c.requires.own c.requires.new,
  search rules,
  c.requires.can,
  λ level is. absurd (none-some level is),
  λ plays none is. is,
  tt,
  λ none. refl,
  λ plays none. refl,
)
