use Rattle.std.proofs.Common.{◌≡◌, map, take}
use Rattle.mcs_sets.specs.Sets.{common}
use Rattle.mcs_import.proofs.states.restricted.Given as goal

abbrev pub invariant-loop-state : goal.invariant-loop-state
invariant-loop-state l = l.parts.items ≡ map (λ s. common s l.mask) (take l.state-index l.states)
