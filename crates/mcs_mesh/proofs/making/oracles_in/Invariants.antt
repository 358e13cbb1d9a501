use Rattle.std.proofs.Common.{◌≡◌, map}
use Rattle.mcs_mesh.specs.Players.{oracles_of}
use Rattle.mcs_mesh.proofs.making.oracles_in.Given as goal

abbrev pub invariant-loop-node : goal.invariant-loop-node
invariant-loop-node g l = map g.O.Oracle.stands l.oracles.items ≡ oracles_of l.yielded
