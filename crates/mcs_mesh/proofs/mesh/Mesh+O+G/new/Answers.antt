use Rattle.std.proofs.Common.{List, subst, sym}
use Rattle.std.specs.Arc.{arc_value}
use Rattle.mcs_states.specs.Oracles.{OracleState}
use Rattle.mcs_mesh.specs.Rounds.{AreFresh}
use Rattle.mcs_mesh.proofs.mesh.Mesh+O+G.new.Goals as goal

pub played_by-requires-clause-own : goal.played_by-requires-clause-own
played_by-requires-clause-own g c = subst (λ (os : List OracleState). AreFresh (arc_value c.args.plan) os) (sym c.in_ok-list.ensures.oracles_are) c.requires.own
