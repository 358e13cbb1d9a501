use Rattle.std.proofs.Common.{◌≡◌, ◌++◌, drop, map}
use Rattle.mcs_system.specs.Plain.{Not}
use Rattle.mcs_system.specs.Seen.{formula_of}
use Rattle.mcs_extensions.proofs.theory.push_negations.Given as goal

abbrev pub invariant-loop-formula : goal.invariant-loop-formula
invariant-loop-formula l = map formula_of l.negations.items ++ map Not (map formula_of (drop l.formula-index l.formulas)) ≡ map formula_of l.initial.negations.items ++ map Not (map formula_of l.formulas)
