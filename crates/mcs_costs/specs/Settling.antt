-- What the questions of a level tell of the cheapest diagnoses.
use Rattle.std.specs.Prelude.{ℕ, ◌≤◌, List}
use Rattle.std.specs.List.{AllByRecursion}
use Rattle.mcs_sets.specs.Sets.{size}
use Rattle.mcs_system.specs.Plain.{System}
use Rattle.mcs_system.specs.Repairs.{IsDiagnosis}
use Rattle.mcs_costs.specs.Costs.{AreCheapest, SettlesNone}
use Rattle.mcs_costs.specs.declared.evaluator.Settling as code
use Rattle.mcs_costs.specs.declared.evaluator.Settling.TheVariants as variants

-- diagnoses with at most so many marks
abbrev pub AreDiagnosesUpTo : System → ℕ → List ℕ → Type 0
AreDiagnosesUpTo m level pairs = AllByRecursion (λ p. IsDiagnosis m p × (size p ≤ level)) pairs

-- all the cheapest diagnoses, or a level, this one or a higher one, that settles of no diagnosis that none costs less, so that no level below it does; what is told beside it are diagnoses
abbrev pub IsSettling : System → ℕ → code.Settling → Type 0
IsSettling m level (variants.Settled pairs) = AreCheapest m pairs.items
IsSettling m level (variants.NoneUpTo bound so_far) = (level ≤ bound) × SettlesNone m bound × AreDiagnosesUpTo m level so_far.items
