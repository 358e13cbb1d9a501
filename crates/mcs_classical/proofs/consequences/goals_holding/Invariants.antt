use Rattle.std.proofs.Common.{◌≡◌, map}
use Rattle.mcs_sets.specs.Sets.{such_that}
use Rattle.mcs_system.specs.Logic.{true_names}
use Rattle.mcs_system.specs.Seen.{formula_of}
use Rattle.mcs_classical.specs.Consequences.{holds_goal}
use Rattle.mcs_classical.proofs.consequences.goals_holding.Given as goal

abbrev pub invariant-loop-place : goal.invariant-loop-place
invariant-loop-place l = l.places ≡ such_that l.place (holds_goal (true_names 0 l.asked.atoms.now l.values) (map (λ g. formula_of g.now) l.asked.beliefs.now))
