use Rattle.std.proofs.Common.{map}
use Rattle.mcs_system.specs.Seen.{item_of}
use Rattle.mcs_default.specs.Keeping.{IsTheoryBase}
use Rattle.mcs_evaluation_tests.proofs.turns.are_found_in_turn.Given as goal

abbrev pub invariant-loop-number : goal.invariant-loop-number
invariant-loop-number l = IsTheoryBase l.atoms (map item_of l.items) l.assumptions l.base
