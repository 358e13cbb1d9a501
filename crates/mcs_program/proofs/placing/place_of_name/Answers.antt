use Rattle.std.proofs.Common.{arith}
use Rattle.mcs_cnf.proofs.NumberLemmas.{atom_positive, atom_within}
use Rattle.mcs_program.proofs.PlaceLemmas.{place_is}
use Rattle.mcs_program.proofs.placing.place_of_name.Goals as goal

pub overflow_cast-result : goal.overflow_cast-result
overflow_cast-result c = omega (arith, atom_within c.args.program.now.atoms.now c.args.name.now c.requires)

pub overflow_sub-result : goal.overflow_sub-result
overflow_sub-result c = omega (arith, atom_positive c.args.program.now.atoms.now c.args.name.now)

pub returns : goal.returns
returns c = place_is c.args.program.now.atoms.now c.args.name.now _ c.args.program.now.different c.requires (omega arith)
