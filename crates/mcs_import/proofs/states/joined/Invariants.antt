use Rattle.std.proofs.Common.{◌≡◌, map, take}
use Rattle.std.specs.List.{flat_map}
use Rattle.mcs_sets.specs.Sets.{union}
use Rattle.mcs_import.proofs.states.joined.Given as goal

abbrev pub invariant-loop-state : goal.invariant-loop-state
invariant-loop-state l = l.unions.items ≡ flat_map (λ s. map (union s) l.others) (take l.state-index l.states)
