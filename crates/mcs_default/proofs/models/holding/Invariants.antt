use Rattle.std.proofs.Common.{◌≡◌, map}
use Rattle.mcs_sets.specs.Sets.{such_that}
use Rattle.mcs_system.specs.Logic.{true_names}
use Rattle.mcs_system.specs.Seen.{default_of}
use Rattle.mcs_default.specs.Assignments.{holds_part_at}
use Rattle.mcs_default.proofs.models.holding.Given as goal

abbrev pub invariant-loop-index : goal.invariant-loop-index
invariant-loop-index l = l.places ≡ such_that l.index (holds_part_at (true_names 0 l.theory.asked.now.atoms.now l.values) l.part (map (λ d. default_of d.now) l.theory.defaults.now))
