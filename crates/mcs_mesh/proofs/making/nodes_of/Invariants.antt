use Rattle.std.proofs.Common.{◌≡◌, map}
use Rattle.std.specs.Arc.{arc_value}
use Rattle.mcs_mesh.specs.Players.{oracles_of}
use Rattle.mcs_mesh.proofs.MakingLemmas.{AreEachNew}
use Rattle.mcs_mesh.proofs.making.nodes_of.Given as goal

abbrev pub invariant-loop-oracle : goal.invariant-loop-oracle
invariant-loop-oracle g l = record {
  oracles : oracles_of l.nodes.items ≡ map g.O.Oracle.stands l.yielded;
  new : AreEachNew (arc_value l.plan) l.budget l.nodes.items;
}
