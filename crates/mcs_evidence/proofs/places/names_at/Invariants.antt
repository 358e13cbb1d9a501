use Rattle.std.proofs.Common.{◌≡◌, ◌++◌, drop}
use Rattle.mcs_system.specs.Logic.{true_names}
use Rattle.mcs_evidence.proofs.places.names_at.Given as goal

abbrev pub invariant-loop-k : goal.invariant-loop-k
invariant-loop-k l = l.names.items ++ true_names l.k (drop l.k l.atoms) l.places ≡ true_names 0 l.atoms l.places
