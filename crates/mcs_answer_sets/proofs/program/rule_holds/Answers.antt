use Rattle.std.proofs.Common.{◌∙◌, sym, ap}
use Rattle.std.specs.List.{list_any, list_all}
use Rattle.mcs_system.specs.Plain.{Name}
use Rattle.mcs_system.specs.Seen.{rule_of}
use Rattle.mcs_system.specs.Logic.{is_in, true_names}
use Rattle.mcs_answer_sets.proofs.ModelLemmas.{rule_unmet, rule_blocked, rule_left}
use Rattle.mcs_answer_sets.proofs.program.rule_holds.Goals as goal

pub returns-then-not-all_true : goal.returns-then-not-all_true
returns-then-not-all_true c =
    rule_unmet (true_names 0 c.args.atoms.now c.args.places) (rule_of c.args.rule.now) (ap (list_all (λ (n : Name). is_in n (true_names 0 c.args.atoms.now c.args.places))) (sym c.deref.ensures.value) ∙ sym c.all_true.ensures ∙ c.if-not-all_true.true)

pub returns-then-some_true : goal.returns-then-some_true
returns-then-some_true c =
    rule_blocked (true_names 0 c.args.atoms.now c.args.places) (rule_of c.args.rule.now) (ap (list_any (λ (n : Name). is_in n (true_names 0 c.args.atoms.now c.args.places))) (sym c.deref-2.ensures.value) ∙ sym c.some_true.ensures ∙ c.if-some_true.true)

pub returns : goal.returns
returns c =
    rule_left (true_names 0 c.args.atoms.now c.args.places) (rule_of c.args.rule.now) c.some_true-2.result
    (ap (list_all (λ (n : Name). is_in n (true_names 0 c.args.atoms.now c.args.places))) (sym c.deref.ensures.value) ∙ sym c.all_true.ensures ∙ c.if-not-all_true.false)
    (ap (list_any (λ (n : Name). is_in n (true_names 0 c.args.atoms.now c.args.places))) (sym c.deref-2.ensures.value) ∙ sym c.some_true.ensures ∙ c.if-some_true.false)
    (c.some_true-2.ensures ∙ ap (list_any (λ (n : Name). is_in n (true_names 0 c.args.atoms.now c.args.places))) c.deref-3.ensures.value)
