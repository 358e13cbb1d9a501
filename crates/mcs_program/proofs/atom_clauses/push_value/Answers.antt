use Rattle.std.proofs.Common.{◌∙◌, ◌++◌, ◌∷◌, [], ℤ, ap, sym, arith, subst, to_z-of_z}
use Rattle.std.proofs.lemmas.Result.{on_ok_weaker}
use Rattle.mcs_cnf.proofs.NumberLemmas.{atom_positive, atom_within}
use Rattle.mcs_cnf.specs.ClauseLists.{atom_number, IsThere}
use Rattle.mcs_trace.specs.Clauses.{ClauseList, IsLiteral}
use Rattle.mcs_trace.proofs.OrderLemmas.{fits_literal}
use Rattle.mcs_program.specs.Clauses.{literal_of}
use Rattle.mcs_program.proofs.ClauseLemmas.{literal_fits, atom_there, adds_value}
use Rattle.mcs_program.proofs.atom_clauses.push_value.Goals as goal

pub literal-requires : goal.literal-requires
literal-requires c = omega (arith, atom_within c.args.program.now.atoms.now c.args.belief.now c.requires.over)

pub add-requires-clause-clause : goal.add-requires-clause-clause
add-requires-clause-clause c =
    let atoms = c.args.program.now.atoms.now in
    let n = c.args.belief.now in
    let within = atom_within atoms n c.requires.over in
    let equal = c.literal.ensures ∙ ap (literal_of c.args.value) c.atom_number.ensures in
    let is : IsLiteral c.literal.result = subst IsLiteral (sym equal) (literal_fits c.args.value (atom_number atoms n) (atom_positive atoms n) (omega (arith, within))) in
    ((subst IsLiteral (sym (to_z-of_z (fits_literal c.literal.result is))) is, tt), (tt, tt))

pub add-requires-clause-within : goal.add-requires-clause-within
add-requires-clause-within c =
    let atoms = c.args.program.now.atoms.now in
    let n = c.args.belief.now in
    let within = atom_within atoms n c.requires.over in
    let equal = c.literal.ensures ∙ ap (literal_of c.args.value) c.atom_number.ensures in
    let is : IsLiteral c.literal.result = subst IsLiteral (sym equal) (literal_fits c.args.value (atom_number atoms n) (atom_positive atoms n) (omega (arith, within))) in
    let there : IsThere c.args.known.now (literal_of c.args.value (atom_number atoms n)) = atom_there atoms c.args.known.now c.args.value n c.requires.room c.requires.over in
    ((subst (IsThere c.args.known.now) (sym (to_z-of_z (fits_literal c.literal.result is) ∙ equal)) there).1, tt)

pub returns-clause-clause : goal.returns-clause-clause
returns-clause-clause c =
    let atoms = c.args.program.now.atoms.now in
    let n = c.args.belief.now in
    let within = atom_within atoms n c.requires.over in
    let equal = c.literal.ensures ∙ ap (literal_of c.args.value) c.atom_number.ensures in
    let is : IsLiteral c.literal.result = subst IsLiteral (sym equal) (literal_fits c.args.value (atom_number atoms n) (atom_positive atoms n) (omega (arith, within))) in
    on_ok_weaker c.add.result (λ e. e ∙ ap (λ (l : ℤ). (let f : ClauseList = record c.args.known.now { clauses = c.args.known.now.clauses ++ (l ∷ []) ∷ [] } in f)) (to_z-of_z (fits_literal c.literal.result is) ∙ equal)) c.add.ensures.ok

pub returns-clause-adds : goal.returns-clause-adds
returns-clause-adds c = on_ok_weaker c.add.result (λ e. adds_value c.args.program.now.atoms.now c.args.belief.now c.args.value c.args.known.now c.add.new.self c.requires.over e) (returns-clause-clause c)
