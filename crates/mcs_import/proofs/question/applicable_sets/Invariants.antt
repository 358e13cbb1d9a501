use Rattle.std.proofs.Common.{◌≡◌, map, take}
use Rattle.mcs_sets.specs.Sets.{common}
use Rattle.mcs_system.specs.Imports.{rules_into}
use Rattle.mcs_system.specs.Systems.{applicable}
use Rattle.mcs_import.proofs.question.applicable_sets.Given as goal

abbrev pub invariant-loop-state : goal.invariant-loop-state
invariant-loop-state l = l.sets.items ≡ map (λ σ. common (applicable l.system σ) (rules_into l.system l.i)) (take l.state-index l.states)
