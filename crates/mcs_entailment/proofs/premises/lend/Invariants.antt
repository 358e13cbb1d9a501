use Rattle.std.proofs.Common.{◌≡◌, ◌++◌, drop, map}
use Rattle.mcs_system.specs.Seen.{formula_of}
use Rattle.mcs_entailment.proofs.premises.lend.Given as goal

abbrev pub invariant-loop-formula : goal.invariant-loop-formula
invariant-loop-formula l = map (λ f. formula_of f.now) l.all.items ++ map formula_of (drop l.formula-index l.formulas) ≡ map formula_of l.formulas
