use Rattle.std.proofs.Common.{ℕ, ◌<◌}
use Rattle.mcs_grounded.specs.Derivations.{IsWhole}
use Rattle.mcs_grounded.specs.Searches.{IsKnown}
use Rattle.mcs_grounded.proofs.search.next_open.Given as goal

-- none of those before is open
abbrev pub invariant-loop-context : goal.invariant-loop-context
invariant-loop-context l = (i : ℕ) → i < l.context → ¬ IsWhole l.derivation.system.now l.derivation.state l.rules i → IsKnown l.bounds i
