use Rattle.std.proofs.Common.{◌≡◌, ◌<◌, ◌++◌, length, map}
use Rattle.std.specs.List.{AllByRecursion}
use Rattle.mcs_system.specs.Seen.{formula_of}
use Rattle.mcs_system.specs.Systems.{variables, variables_of}
use Rattle.mcs_system.specs.Views.{belief_at, beliefs_at}
use Rattle.mcs_asking.proofs.asking.beliefs_of.Given as goal

-- with those that are still to come the beliefs are all
abbrev pub invariant-loop-variable : goal.invariant-loop-variable
invariant-loop-variable l = record {
  lent : map (λ f. formula_of f.now) l.beliefs.items ++ map (belief_at l.system) l.variable-iterator ≡ beliefs_at l.system (variables_of l.system l.context);
  known : AllByRecursion (λ k. k < length (variables l.system)) l.variable-iterator;
}
