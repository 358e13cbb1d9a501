use Rattle.std.proofs.Common.{rules, tests, sym, map, ◌∙◌}
use Rattle.std.proofs.lemmas.Iterator.{YieldsList-from_slice}
use Rattle.std.proofs.lemmas.Iterator.Search.{all_from_yields_List}
use Rattle.std.proofs.lemmas.List.Folds.{list_all-map}
use Rattle.mcs_system.specs.Plain.{ProgramRule}
use Rattle.mcs_system.specs.Seen.{rule_of}
use Rattle.mcs_system.specs.Logic.{holds, true_names}
use Rattle.mcs_system.specs.declared.knowledge.ProgRule.{ProgRule}
use Rattle.mcs_evidence.specs.Programs.{rule_formula}
use Rattle.mcs_answer_sets.proofs.program.rules_hold.Goals as goal

pub returns : goal.returns
returns c = all_from_yields_List (λ (r : ProgRule). holds (true_names 0 c.args.atoms.now c.args.places) (rule_formula (rule_of r))) _ _ c.all.result c.all.ensures.ran (YieldsList-from_slice c.args.rules.now c.iter.ensures.rest) (λ x b q k. search (rules, tests))
    ∙ sym (list_all-map (holds (true_names 0 c.args.atoms.now c.args.places)) rule_formula (map rule_of c.args.rules.now) ∙ list_all-map (λ (r : ProgramRule). holds (true_names 0 c.args.atoms.now c.args.places) (rule_formula r)) rule_of c.args.rules.now)
