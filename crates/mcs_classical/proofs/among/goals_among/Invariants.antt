use Rattle.std.proofs.Common.{◌≡◌, map}
use Rattle.mcs_sets.specs.Sets.{such_that}
use Rattle.mcs_system.specs.Seen.{formula_of}
use Rattle.mcs_classical.specs.Consequences.{stands_at}
use Rattle.mcs_classical.proofs.among.goals_among.Given as goal

abbrev pub invariant-loop-place : goal.invariant-loop-place
invariant-loop-place l = l.places ≡ such_that l.place (stands_at (map formula_of l.formulas) (map (λ g. formula_of g.now) l.asked.beliefs.now))
