use Rattle.std.proofs.Common.{◌≡◌}
use Rattle.crossbeam_channel.specs.Claims.{view, IsSeatAt}
use Rattle.crossbeam_channel.specs.Ends.{receives_on}
use Rattle.mcs_wire.proofs.inbox.take_on.Given as goal

abbrev pub invariant-loop : goal.invariant-loop
invariant-loop g l = (view l.pass ≡ view l.fn.pass) × IsSeatAt (receives_on l.receiver) l.pass
