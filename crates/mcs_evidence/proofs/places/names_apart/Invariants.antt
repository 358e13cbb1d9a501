use Rattle.std.proofs.Common.{◌≡◌, ◌++◌, not, drop, filter}
use Rattle.mcs_system.specs.Logic.{is_in}
use Rattle.mcs_evidence.proofs.places.names_apart.Given as goal

abbrev pub invariant-loop-name : goal.invariant-loop-name
invariant-loop-name l = l.apart.items ++ filter (λ n. not (is_in n l.others)) (drop l.name-index l.names) ≡ filter (λ n. not (is_in n l.others)) l.names
