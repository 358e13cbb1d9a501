use Rattle.std.proofs.Common.{arith}
use Rattle.mcs_cnf.proofs.NumberLemmas.{atom_positive, atom_within}
use Rattle.mcs_program.proofs.PlaceLemmas.{place_is}
use Rattle.mcs_grounded.proofs.normal.place_of.Goals as goal

pub overflow_cast-result : goal.overflow_cast-result
overflow_cast-result c = omega (arith, c.requires.atoms.few, atom_within c.args.atoms.now c.args.name.now c.requires.over)

pub overflow_sub-result : goal.overflow_sub-result
overflow_sub-result c = omega (arith, atom_positive c.args.atoms.now c.args.name.now)

pub returns : goal.returns
returns c = place_is c.args.atoms.now c.args.name.now _ c.requires.atoms.different c.requires.over (omega arith)
