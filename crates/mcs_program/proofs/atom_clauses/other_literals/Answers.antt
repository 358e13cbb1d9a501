use Rattle.std.proofs.Common.{arith}
use Rattle.mcs_cnf.proofs.NumberLemmas.{atom_within}
use Rattle.mcs_evidence.proofs.ProgramClauses.{rest_names}
use Rattle.mcs_program.proofs.atom_clauses.other_literals.Goals as goal

pub literal-requires : goal.literal-requires
literal-requires c =
    let known = (rest_names (λ b. b.now) c.args.program.now.atoms.now c.args.program.now.beliefs.now c.loop-k.k c.index-beliefs-k.result c.loop-k-test.true c.index-beliefs-k.is c.loop-k.invariant.over).0.0 in
    let within = atom_within c.args.program.now.atoms.now c.index-beliefs-k.result.now known in
    omega (arith, within)
