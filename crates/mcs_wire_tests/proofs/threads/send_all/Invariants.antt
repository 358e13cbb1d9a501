use Rattle.std.proofs.Common.{◌≡◌, length}
use Rattle.mcs_wire_tests.specs.Loads.{IsReady}
use Rattle.mcs_wire_tests.proofs.threads.send_all.Given as goal

abbrev pub invariant-loop-letter : goal.invariant-loop-letter
invariant-loop-letter g l = (l.address.wire ≡ l.fn.load.address.wire) × IsReady l.address l.letters.items

abbrev pub decreases-loop-letter : goal.decreases-loop-letter
decreases-loop-letter g l = length l.letters.items
