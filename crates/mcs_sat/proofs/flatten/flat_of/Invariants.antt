use Rattle.mcs_sat.specs.Flattening.{IsFlat}
use Rattle.mcs_sat.proofs.flatten.flat_of.Given as goal

abbrev pub invariant-loop : goal.invariant-loop
invariant-loop l = IsFlat l.clauses l.flat
