use Rattle.std.proofs.Common.{◌∙◌, List, map, length, sym, ap, subst, arith}
use Rattle.std.proofs.lemmas.List.{length-map}
use Rattle.mcs_base.proofs.Each.{all_append}
use Rattle.mcs_system.specs.Plain.{Formula, Default, Item}
use Rattle.mcs_system.specs.Seen.{default_of, formula_of, item_of}
use Rattle.mcs_cnf.specs.ClauseLists.{clause_list, IsOver, AreOver}
use Rattle.mcs_evidence.specs.Defaults.{defaults_of, facts_of}
use Rattle.mcs_evidence.proofs.TheoryLemmas.{defaults_with, facts_with, over_facts, over_with_facts}
use Rattle.mcs_proof_lines.proofs.Justs.{counted}
use Rattle.mcs_judging.proofs.verdicts.judge_verdicts.Goals as goal

pub clauses_of-requires : goal.clauses_of-requires
clauses_of-requires c =
    subst (AreOver c.args.asked.now.atoms.now) (sym (ap (map (λ f. formula_of f.now)) c.deref.ensures.value ∙ c.in_ok-facts.ensures))
    (all_append (IsOver c.args.asked.now.atoms.now) (facts_of (map item_of c.args.items.now)) (map (λ f. formula_of f.now) c.args.heads.now) (over_facts c.args.asked.now.atoms.now (map item_of c.args.items.now) c.requires.items) c.requires.heads)

pub invariant_of-question : goal.invariant_of-question
invariant_of-question c =
    let own : List Item = map item_of c.args.items.now in
    let heads : List Formula = map (λ f. formula_of f.now) c.args.heads.now in
    record {
      are = ap (map (λ d. default_of d.now)) c.deref-2.ensures.value ∙ c.in_ok-defaults.ensures ∙ sym (defaults_with own heads);
      few_defaults = omega (arith, ap length c.deref-2.ensures.value, length-map c.in_ok-defaults.defaults.items (λ d. default_of d.now), ap length c.in_ok-defaults.ensures, c.requires.few_defaults);
      over = over_with_facts c.args.asked.now.atoms.now own heads c.requires.items c.requires.heads;
    }

pub invariant_of-reading : goal.invariant_of-reading
invariant_of-reading c =
    let own : List Item = map item_of c.args.items.now in
    record {
      justs = c.requires.justs ∙ ap (map (λ (d : Default). length d.justs)) (sym (defaults_with own (map (λ f. formula_of f.now) c.args.heads.now)));
      beliefs = c.requires.told_beliefs;
      few_texts = c.requires.few_texts;
      few_numbers = c.requires.few_numbers;
      few_justs = (let long = counted (defaults_of own) c.args.terms.now.justs.now c.requires.justs in let few = c.requires.few_defaults in omega (arith, long, few));
    }

pub judge_sets-requires : goal.judge_sets-requires
judge_sets-requires c = record {
  made = c.in_ok-known.ensures ∙ ap (λ fs. clause_list c.args.asked.now.atoms.now (map (λ f. formula_of f.now) fs)) c.deref.ensures.value ∙ ap (clause_list c.args.asked.now.atoms.now) (c.in_ok-facts.ensures ∙ sym (facts_with (map item_of c.args.items.now) (map (λ f. formula_of f.now) c.args.heads.now)));
}
