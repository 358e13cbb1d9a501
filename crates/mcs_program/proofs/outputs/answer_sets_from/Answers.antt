use Rattle.std.proofs.Common.{◌++◌, ◌∙◌, List, map, sym, ap, subst}
use Rattle.std.specs.List.{filter_map}
use Rattle.std.proofs.lemmas.Result.{IfOk-weaker}
use Rattle.mcs_system.specs.Plain.{ProgramRule, Atom}
use Rattle.mcs_system.specs.Seen.{rule_of}
use Rattle.mcs_system.specs.Logic.{fact_of}
use Rattle.mcs_evidence.specs.Programs.{program_shown_of, AreOverRules, IsAcceptedProgram}
use Rattle.mcs_evidence.proofs.AnswerSets.{program_sound}
use Rattle.mcs_program.proofs.SearchLemmas.{atoms_of_names}
use Rattle.mcs_program.proofs.OutputLemmas.{with_facts_over}
use Rattle.mcs_program.proofs.outputs.answer_sets_from.Goals as goal

pub invariant_of-program : goal.invariant_of-program
invariant_of-program c = record {
  few = c.requires.few;
  different = c.requires.different;
  few_beliefs = c.requires.few_beliefs;
  rules_over = subst (AreOverRules c.args.atoms.now) (sym (ap (map rule_of) c.deref.ensures.value ∙ c.in_ok-all.ensures))
      (with_facts_over c.args.atoms.now (map (λ b. b.now) c.args.added.now) (map rule_of c.args.rules.now) c.requires.rules c.requires.added);
  beliefs_over = c.requires.beliefs;
}

pub returns-clause-accepted : goal.returns-clause-accepted
returns-clause-accepted c =
    IfOk-weaker c.found_and_shown-result.result _ _ (λ r accepted. subst (λ (rules : List ProgramRule). IsAcceptedProgram c.args.atoms.now rules (map Atom (map (λ b. b.now) c.args.beliefs.now)) r.0.items (program_shown_of r.1))
    (ap (map rule_of) c.deref.ensures.value ∙ c.in_ok-all.ensures) accepted)
    c.found_and_shown-result.ensures

pub returns-clause-exact : goal.returns-clause-exact
returns-clause-exact c =
    let names = c.args.atoms.now in
    let rules = map rule_of c.args.rules.now ++ filter_map fact_of (map Atom (map (λ b. b.now) c.args.added.now)) in
    let beliefs = map Atom (map (λ b. b.now) c.args.beliefs.now) in
    IfOk-weaker c.found_and_shown-result.result _ _ (λ r accepted. program_sound names rules beliefs r.0.items (program_shown_of r.1) c.requires.different
    (with_facts_over names (map (λ b. b.now) c.args.added.now) (map rule_of c.args.rules.now) c.requires.rules c.requires.added)
    (atoms_of_names names (map (λ b. b.now) c.args.beliefs.now) c.requires.beliefs) accepted)
    (returns-clause-accepted c)
