use Rattle.std.proofs.Common.{◌≡◌, ◌≤◌}
use Rattle.mcs_system.specs.Denials.{denied}
use Rattle.mcs_system.specs.Seen.{formula_of}
use Rattle.mcs_system.specs.declared.formula.Formula.{size-Formula}
use Rattle.mcs_system.proofs.denials.denied.Given as goal

abbrev pub invariant-loop-rest : goal.invariant-loop-rest
invariant-loop-rest l = record {
  same : denied (formula_of l.rest) ≡ denied (formula_of l.formula);
  no_deeper : size-Formula l.rest ≤ size-Formula l.formula;
}
