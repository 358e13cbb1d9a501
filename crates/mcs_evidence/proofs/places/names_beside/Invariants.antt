use Rattle.std.proofs.Common.{◌≡◌, ◌++◌, drop}
use Rattle.mcs_evidence.specs.Programs.{false_names}
use Rattle.mcs_evidence.proofs.places.names_beside.Given as goal

abbrev pub invariant-loop-k : goal.invariant-loop-k
invariant-loop-k l = l.names.items ++ false_names l.k (drop l.k l.atoms) l.places ≡ false_names 0 l.atoms l.places
