use Rattle.mcs_system.proofs.KnownLemmas.{known_of_kept, known_as}
use Rattle.mcs_system.proofs.system.System.with_rule.Goals as goal

pub keep_again-requires : goal.keep_again-requires
keep_again-requires c = known_as _ _ c.deref.ensures (known_of_kept _ _ _ c.self.invariant)
