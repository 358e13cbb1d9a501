use Rattle.std.proofs.Common.{◌≡◌}
use Rattle.mcs_system.specs.Denials.{with_denials}
use Rattle.mcs_system.specs.Seen.{formula_of}
use Rattle.mcs_system.proofs.denials.with_denials.Given as goal

abbrev pub invariant-loop-rest : goal.invariant-loop-rest
invariant-loop-rest l = with_denials (formula_of l.rest) (formula_of l.whole) ≡ with_denials (formula_of l.formula) (formula_of l.fn.core)
