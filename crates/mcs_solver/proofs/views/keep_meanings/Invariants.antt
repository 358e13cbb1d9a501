use Rattle.std.proofs.Common.{map, take}
use Rattle.mcs_system.specs.Seen.{formula_of}
use Rattle.mcs_meant.specs.Meanings.{AreMeantBy}
use Rattle.mcs_solver.proofs.views.keep_meanings.Given as goal

-- the formulas so far are meant
abbrev pub invariant-loop-formula : goal.invariant-loop-formula
invariant-loop-formula l = AreMeantBy l.atoms (map formula_of (take l.formula-index l.formulas)) l.known
