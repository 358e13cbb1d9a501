use Rattle.std.proofs.Common.{◌↔◌, ◌<◌, ℕ}
use Rattle.std.specs.List.{AllByRecursion}
use Rattle.mcs_sets.specs.Sets.{members}
use Rattle.mcs_import.specs.States.{SomeGrows}
use Rattle.mcs_import.proofs.states.guessed_states.Given as goal

abbrev pub invariant-loop-variable : goal.invariant-loop-variable
invariant-loop-variable l = record {
  grows : (s : ℕ) → SomeGrows l.variable-iterator l.states.items s ↔ SomeGrows (members l.fn.guessed) l.fn.states.items s;
  known : AllByRecursion (λ k. k < 64) l.variable-iterator;
}
