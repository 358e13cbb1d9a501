use Rattle.std.proofs.Common.{◌≡◌, drop}
use Rattle.mcs_system.specs.Logic.{is_in, true_names}
use Rattle.mcs_answer_sets.proofs.program.is_true_at.Given as goal

abbrev pub invariant-loop-k : goal.invariant-loop-k
invariant-loop-k l = is_in l.name (true_names 0 l.atoms l.places) ≡ is_in l.name (true_names l.k (drop l.k l.atoms) l.places)
