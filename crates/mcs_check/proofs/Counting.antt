-- No level of a system has so many questions.
use Rattle.std.proofs.Common.{ℕ, ◌+◌, arith}
use Rattle.mcs_system.specs.Faults.{IsValid}
use Rattle.mcs_system.specs.Levels.{HasQuestions}
use Rattle.mcs_system.specs.Plain.{System}
use Rattle.mcs_import.proofs.CountLemmas.{questions_bounded}
use Rattle.mcs_import.proofs.RuleCounts.{few_sets}

pub never_so_many : (m : System) → IsValid m → (level : ℕ) → ¬ HasQuestions m level (4294967295 + 1)
never_so_many m valid level some =
    let bound = questions_bounded m level (4294967295 + 1) some in
    let few = few_sets m valid in
    omega (arith, bound, few)
