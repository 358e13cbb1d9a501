use Rattle.std.proofs.Common.{take}
use Rattle.mcs_base.specs.Listings.{IsAmong}
use Rattle.mcs_joint.proofs.Settling.{IsNoLater}
use Rattle.mcs_joint.proofs.first.least_of.Given as goal

abbrev pub invariant-loop-state : goal.invariant-loop-state
invariant-loop-state l = IsAmong l.least l.states × IsNoLater l.least (take l.state-index l.states)
