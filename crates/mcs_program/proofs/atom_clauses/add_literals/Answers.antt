use Rattle.std.proofs.Common.{◌+◌, ◌∙◌, ◌++◌, ◌∷◌, [], drop, ap, sym, arith, append_assoc, subst, to_z-of_z, List, ℤ}
use Rattle.mcs_cnf.proofs.NumberLemmas.{atom_positive, atom_within}
use Rattle.mcs_cnf.specs.ClauseLists.{atom_number}
use Rattle.mcs_system.specs.Plain.{Name}
use Rattle.mcs_base.proofs.Mapped.{map-drop_more, all_drop_parts}
use Rattle.mcs_trace.specs.Clauses.{IsLiteral}
use Rattle.mcs_trace.proofs.OrderLemmas.{fits_literal}
use Rattle.mcs_program.specs.Clauses.{literal_of, literals_of_names}
use Rattle.mcs_program.proofs.ClauseLemmas.{literal_fits}
use Rattle.mcs_program.proofs.atom_clauses.add_literals.Goals as goal

pub literal-requires : goal.literal-requires
literal-requires c =
    let known = (all_drop_parts _ c.args.names.now c.loop-name.name-index c.name-item.result c.loop-name-test.true c.name-item.is c.loop-name.invariant.over).0 in
    let within = atom_within c.args.program.now.atoms.now c.name-item.result known in
    omega (arith, within)

pub loop-name-preserved : goal.loop-name-preserved
loop-name-preserved c =
    let names = c.args.names.now in
    let i = c.loop-name.name-index in
    let name = c.name-item.result in
    let atoms = c.args.program.now.atoms.now in
    let tail : List ℤ = literals_of_names atoms c.args.sign (drop (i + 1) names) in
    let all = all_drop_parts _ names i name c.loop-name-test.true c.name-item.is c.loop-name.invariant.over in
    let within = atom_within atoms name all.0 in
    let equal = c.literal.ensures ∙ ap (literal_of c.args.sign) c.atom_number.ensures in
    let is : IsLiteral c.literal.result = subst IsLiteral (sym equal) (literal_fits c.args.sign (atom_number atoms name) (atom_positive atoms name) (omega (arith, within))) in
    record {
      over = all.1;
      added = ap (λ (ls : List ℤ). ls ++ tail) (c.in_ok-push.ensures.items ∙ ap (λ l. c.loop-name.literals.items ++ l ∷ []) (to_z-of_z (fits_literal c.literal.result is) ∙ equal))
          ∙ append_assoc c.loop-name.literals.items (literal_of c.args.sign (atom_number atoms name) ∷ []) tail
          ∙ ap (λ (ls : List ℤ). c.loop-name.literals.items ++ ls) (sym (map-drop_more (λ (n : Name). literal_of c.args.sign (atom_number atoms n)) names i name c.loop-name-test.true c.name-item.is))
          ∙ c.loop-name.invariant.added;
    }
