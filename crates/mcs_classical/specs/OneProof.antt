-- That assumptions have numbers below 64 has at most one proof, as a fact that a struct keeps must.
use Rattle.std.specs.Prelude.{◌<◌, List}
use Rattle.std.specs.List.{AllByRecursion, AllByRecursion-prop}
use Rattle.std.specs.Coded.{le_prop}
use Rattle.mcs_classical.specs.declared.assumptions.Assumption as declared

pub AreNumbers-prop : (assumptions : List declared.Assumption) → IsProp (AllByRecursion (λ (a : declared.Assumption). a.number < 64) assumptions)
AreNumbers-prop assumptions = AllByRecursion-prop (λ (a : declared.Assumption). a.number < 64) (λ a. le_prop) assumptions
