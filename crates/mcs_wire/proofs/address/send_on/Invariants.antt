use Rattle.std.proofs.Common.{◌≡◌}
use Rattle.crossbeam_channel.specs.Claims.{view, IsSeatAt}
use Rattle.crossbeam_channel.specs.Ends.{sends_on}
use Rattle.mcs_wire.proofs.address.send_on.Given as goal

abbrev pub invariant-loop : goal.invariant-loop
invariant-loop g l = (l.letter ≡ l.fn.letter) × (view l.pass ≡ view l.fn.pass) × IsSeatAt (sends_on l.sender) l.pass
