use Rattle.std.proofs.Common.{◌≡◌, ◌++◌}
use Rattle.crossbeam_channel.specs.Claims.{view, IsSeatAt}
use Rattle.crossbeam_channel.specs.Ends.{receives_on}
use Rattle.mcs_wire.proofs.settled.drain.Given as goal

abbrev pub invariant-loop : goal.invariant-loop
invariant-loop g l = IsSeatAt (receives_on l.receiver) l.pass × ((view l.pass).reads ≡ (view l.fn.pass).reads) × ((view l.pass).parts ≡ (view l.fn.pass).parts) × ((view l.pass).addresses ≡ (view l.fn.pass).addresses)
    × ((view l.pass).plan ≡ (view l.fn.pass).plan) × ((view l.pass).sent ≡ (view l.fn.pass).sent) × ((view l.pass).taken ≡ (view l.fn.pass).taken ++ l.left.items)
