use Rattle.std.proofs.Common.{rules, tests, sym, ap, ◌∙◌}
use Rattle.std.proofs.lemmas.Iterator.{YieldsList-from_slice}
use Rattle.std.proofs.lemmas.Iterator.Search.{all_from_yields_List}
use Rattle.std.proofs.lemmas.List.Folds.{list_all-map}
use Rattle.std.specs.List.{list_all}
use Rattle.mcs_system.specs.Seen.{kb_of, rule_of}
use Rattle.mcs_system.specs.declared.knowledge.Kb.{Kb}
use Rattle.mcs_system.specs.declared.knowledge.ProgRule.{ProgRule}
use Rattle.mcs_reduct.specs.Plain.{has_one_head, is_plain}
use Rattle.mcs_reduct.proofs.plain.is_plain.Goals as goal

pub returns-in-Program : goal.returns-in-Program
returns-in-Program c =
    all_from_yields_List (λ (r : ProgRule). has_one_head (rule_of r)) _ _ c.all.result c.all.ensures.ran (YieldsList-from_slice c.deref.result.now c.iter.ensures.rest) (λ x b q k. search (rules, tests))
    ∙ ap (list_all (λ (r : ProgRule). has_one_head (rule_of r))) c.deref.ensures.value
    ∙ sym (list_all-map has_one_head rule_of c.in-Program.rules.items)
    ∙ ap (λ (kb : Kb). is_plain (kb_of kb)) (sym c.in-Program.is)
