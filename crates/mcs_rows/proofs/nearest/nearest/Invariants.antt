use Rattle.std.proofs.Common.{ℕ, take}
use Rattle.std.specs.List.{AllByRecursion}
use Rattle.mcs_sets.specs.Sets.{Within}
use Rattle.mcs_system.specs.Imports.{rules_into}
use Rattle.mcs_system.specs.Plain.{System}
use Rattle.mcs_rows.specs.Nearest.{AppliesAt, AreNearest}
use Rattle.mcs_rows.proofs.nearest.nearest.Given as goal

abbrev pub invariant-loop-question : goal.invariant-loop-question
invariant-loop-question l = (m : System) (i state : ℕ) → AppliesAt m i state l.applying l.reach → AllByRecursion (λ x. Within x (rules_into m i)) l.questions → AreNearest m i state l.reach l.applying (take l.question-index l.questions) l.found.items
