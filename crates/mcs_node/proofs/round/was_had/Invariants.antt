use Rattle.std.proofs.Common.{take}
use Rattle.mcs_base.specs.Listings.{IsAmong}
use Rattle.mcs_node.specs.Keeping.{froms}
use Rattle.mcs_node.proofs.round.was_had.Given as goal

abbrev pub invariant-loop-letter : goal.invariant-loop-letter
invariant-loop-letter l = ¬ IsAmong l.from (froms (take l.letter-index l.had))
