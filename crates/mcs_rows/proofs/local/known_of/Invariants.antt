use Rattle.std.proofs.Common.{take}
use Rattle.mcs_rows.proofs.NearLemmas.{AreNear}
use Rattle.mcs_rows.proofs.local.known_of.Given as goal

abbrev pub invariant-loop-set : goal.invariant-loop-set
invariant-loop-set l = AreNear l.own (take l.set-index l.known) l.near.items
