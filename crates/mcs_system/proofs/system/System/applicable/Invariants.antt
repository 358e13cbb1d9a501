use Rattle.std.proofs.Common.{◌≡◌, ◌<◌, length}
use Rattle.std.specs.List.{AllByRecursion}
use Rattle.mcs_sets.specs.Sets.{common}
use Rattle.mcs_system.specs.Imports.{rules_into}
use Rattle.mcs_system.specs.Systems.{applicable}
use Rattle.mcs_system.proofs.AppliesLemmas.{applying}
use Rattle.mcs_system.proofs.system.System.applicable.Given as goal

abbrev pub invariant-loop-r : goal.invariant-loop-r
invariant-loop-r l = record {
  gathered : applying l.self l.state l.rules l.r-iterator ≡ common (applicable l.self l.state) (rules_into l.self l.context);
  known : AllByRecursion (λ k. k < length l.self.bridges) l.r-iterator;
}
