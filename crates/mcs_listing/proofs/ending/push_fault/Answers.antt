use Rattle.std.proofs.Common.{arith}
use Rattle.std.proofs.lemmas.Grind.{common_steps}
use Rattle.mcs_listing.specs.Endings.{fault_line}
use Rattle.mcs_listing.proofs.ending.push_fault.Goals as goal

pub returns : goal.returns
unfolding fault_line
returns c = grind (arith, common_steps)
