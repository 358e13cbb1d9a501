use Rattle.std.proofs.Common.{◌≡◌, ◌+◌, drop}
use Rattle.mcs_cnf.specs.ClauseLists.{atom_number}
use Rattle.mcs_cnf.proofs.formulas.atom_number.Given as goal

abbrev pub invariant-loop-index : goal.invariant-loop-index
invariant-loop-index l = atom_number l.atoms l.name ≡ atom_number (drop l.index l.atoms) l.name + l.index
