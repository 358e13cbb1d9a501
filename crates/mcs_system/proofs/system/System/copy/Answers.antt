use Rattle.mcs_system.proofs.KnownLemmas.{known_of_kept, known_as}
use Rattle.mcs_system.proofs.system.System.copy.Goals as goal

pub keep_valid_again-requires-clause-known : goal.keep_valid_again-requires-clause-known
keep_valid_again-requires-clause-known c = known_as _ _ c.deref-2.ensures (known_of_kept _ _ _ c.self.invariant)
