use Rattle.std.proofs.Common.{◌≡◌, ◌+◌, ◌<◌, ◌↔◌, ℕ, pos, length, IsTrue}
use Rattle.mcs_sat.specs.Answers.{assignment_of}
use Rattle.mcs_engine.specs.Trails.{IsOn}
use Rattle.mcs_sat.proofs.model.model_of.Given as goal

abbrev pub invariant-loop-variable : goal.invariant-loop-variable
invariant-loop-variable l = record {
  size : length l.model.items + 1 ≡ l.variable;
  values : (v : ℕ) → 0 < v → v < l.variable → (IsTrue (assignment_of l.model.items v) ↔ IsOn l.trail.entries.items (pos v));
}
