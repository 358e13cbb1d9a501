use Rattle.std.proofs.Common.{◌<◌, ◌≤◌, ℕ}
use Rattle.mcs_sets.specs.Sets.{size, common}
use Rattle.mcs_system.specs.Imports.{rules_into}
use Rattle.mcs_mesh.specs.Rounds.{changeable}
use Rattle.mcs_mesh.proofs.lasting.has_few_rules.Given as goal

abbrev pub invariant-loop-context : goal.invariant-loop-context
invariant-loop-context l = (i : ℕ) → i < l.context → size (common (rules_into l.system i) (changeable l.system)) ≤ l.level
