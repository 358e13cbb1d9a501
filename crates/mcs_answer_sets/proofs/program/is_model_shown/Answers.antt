use Rattle.std.proofs.Common.{◌∙◌, ℕ, map, sym, ap, true≢false}
use Rattle.std.proofs.lemmas.Result.{IfOk-weaker}
use Rattle.mcs_base.proofs.Booleans.{false_tells}
use Rattle.mcs_system.specs.Logic.{holds_all, true_names}
use Rattle.mcs_system.specs.Seen.{rule_of}
use Rattle.mcs_evidence.specs.Programs.{rule_formula, model_shown_of}
use Rattle.std.proofs.lemmas.Bool.{iff_false}
use Rattle.mcs_answer_sets.proofs.ModelLemmas.{model_iff}
use Rattle.mcs_answer_sets.proofs.program.is_model_shown.Goals as goal

pub returns-then-not-is_in_range : goal.returns-then-not-is_in_range
returns-then-not-is_in_range c = false_tells (λ h. iff_false c.is_in_range.ensures c.if-not-is_in_range.true h.in_range)

pub returns-then-not-rules_hold : goal.returns-then-not-rules_hold
returns-then-not-rules_hold c =
    false_tells (λ h. true≢false (sym (c.rules_hold.ensures ∙ ap (λ (s : ℕ). holds_all (true_names 0 c.args.program.now.atoms.now s) (map rule_formula (map rule_of c.args.program.now.rules.now))) c.numbered-model.ensures ∙ h.satisfies) ∙ c.if-not-rules_hold.true))

pub returns : goal.returns
returns c = IfOk-weaker c.check.result _ _ (λ answer accepted.
    model_iff c.args.program.now.atoms.now (map rule_of c.args.program.now.rules.now) (model_shown_of c.args.shown.now) c.numbered-model.result c.in_ok-smaller.smaller answer (c.is_in_range.ensures.0 c.if-not-is_in_range.false)
    (sym c.rules_hold.ensures ∙ c.if-not-rules_hold.false) c.numbered-model.ensures c.in_ok-smaller.ensures accepted) c.check.ensures.accepted
