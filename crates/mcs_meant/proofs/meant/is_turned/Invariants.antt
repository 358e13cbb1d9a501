use Rattle.std.proofs.Common.{◌≡◌, not, cond}
use Rattle.mcs_system.specs.Seen.{formula_of}
use Rattle.mcs_meant.specs.Literals.{is_turned}
use Rattle.mcs_meant.proofs.meant.is_turned.Given as goal

abbrev pub invariant-loop-rest : goal.invariant-loop-rest
invariant-loop-rest l = cond l.odd (not (is_turned (formula_of l.rest))) (is_turned (formula_of l.rest)) ≡ is_turned (formula_of l.formula)
