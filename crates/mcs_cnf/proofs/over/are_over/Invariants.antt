use Rattle.std.proofs.Common.{◌↔◌, drop, map}
use Rattle.mcs_system.specs.Seen.{formula_of}
use Rattle.mcs_cnf.specs.ClauseLists.{AreOver}
use Rattle.mcs_cnf.proofs.over.are_over.Given as goal

abbrev pub invariant-loop-formula : goal.invariant-loop-formula
invariant-loop-formula l = AreOver l.atoms (map formula_of l.formulas) ↔ AreOver l.atoms (map formula_of (drop l.formula-index l.formulas))
