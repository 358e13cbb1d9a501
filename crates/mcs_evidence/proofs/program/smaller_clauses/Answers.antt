use Rattle.std.proofs.Common.{arith, ◌∙◌, ap, refl, map, List, [], ◌∷◌, ◌++◌}
use Rattle.mcs_system.specs.Plain.{Name, Not}
use Rattle.mcs_system.specs.Logic.{reduct, true_names}
use Rattle.mcs_system.specs.Seen.{rule_of}
use Rattle.mcs_trace.specs.Clauses.{ClauseList}
use Rattle.mcs_cnf.specs.ClauseLists.{with_formulas}
use Rattle.mcs_evidence.specs.Programs.{positive_formula, negated_atoms, atoms_as, conjunction, false_names, smaller_formulas}
use Rattle.mcs_evidence.proofs.ProgramClauses.{three, within_names, beside_names}
use Rattle.mcs_evidence.proofs.program.smaller_clauses.Goals as goal

pub push_negations-requires : goal.push_negations-requires
push_negations-requires c = record { over = beside_names c.args.atoms.now c.deref-2.result.now c.args.model (c.deref-2.ensures.value ∙ c.in_ok-beside.ensures); room = omega (arith, ap (λ (k : ClauseList). k.vars) c.new-cnf.ensures, c.in_ok-push_reduct.ensures.grows) }

pub join_atoms-requires-clause-can : goal.join_atoms-requires-clause-can
join_atoms-requires-clause-can c = record { over = within_names c.args.atoms.now c.deref-3.result.now c.args.model (c.deref-3.ensures.value ∙ c.in_ok-within.ensures); room = omega (arith, ap (λ (k : ClauseList). k.vars) c.new-cnf.ensures, c.in_ok-push_reduct.ensures.grows, c.in_ok-push_negations.ensures.grows) }

pub returns : goal.returns
returns c =
    let names = c.args.atoms.now in
    let rules = map rule_of c.args.rules.now in
    let model = c.args.model in
    let start = c.push_negations.new.cnf in
    three names c.new-cnf.result c.push_reduct.new.cnf start c.push_not_all.new.cnf
    (map positive_formula (reduct c.deref.result.now rules)) (negated_atoms c.deref-2.result.now) (Not (conjunction (atoms_as c.deref-3.result.now)) ∷ [])
    c.in_ok-push_reduct.ensures.pushed c.in_ok-push_negations.ensures.pushed
    (c.in_ok-push_not_all.ensures.pushed names start (atoms_as c.deref-3.result.now) (c.in_ok-all.ensures.joined start [] (refl, refl)))
    ∙ ap (λ (a : List Name). with_formulas names c.new-cnf.result (map positive_formula (reduct a rules) ++ (negated_atoms c.deref-2.result.now ++ Not (conjunction (atoms_as c.deref-3.result.now)) ∷ []))) (c.deref.ensures.value ∙ c.in_ok-within.ensures)
    ∙ ap (λ (b : List Name). with_formulas names c.new-cnf.result (map positive_formula (reduct (true_names 0 names model) rules) ++ (negated_atoms b ++ Not (conjunction (atoms_as c.deref-3.result.now)) ∷ []))) (c.deref-2.ensures.value ∙ c.in_ok-beside.ensures)
    ∙ ap (λ (a : List Name). with_formulas names c.new-cnf.result (map positive_formula (reduct (true_names 0 names model) rules) ++ (negated_atoms (false_names 0 names model) ++ Not (conjunction (atoms_as a)) ∷ []))) (c.deref-3.ensures.value ∙ c.in_ok-within.ensures)
    ∙ ap (λ (k : ClauseList). with_formulas names k (smaller_formulas names rules model)) c.new-cnf.ensures
