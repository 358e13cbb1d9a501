use Rattle.std.proofs.Common.{map, take}
use Rattle.mcs_base.specs.Listings.{IsAmong}
use Rattle.mcs_account.specs.Images.{named_read_of}
use Rattle.mcs_faults.proofs.watch.Watch.variable_number.Given as goal

abbrev pub invariant-loop-number : goal.invariant-loop-number
invariant-loop-number l = ¬ IsAmong (named_read_of l.read) (map named_read_of (take l.number l.self.variables.items))
