use Rattle.std.proofs.Common.{List, [], ap, refl, ◌∙◌}
use Rattle.mcs_system.specs.Plain as plain
use Rattle.mcs_system.specs.Seen.{context_of, kb_of, rule_of}
use Rattle.mcs_productions.specs.declared.class.Class.TheVariants as class
use Rattle.mcs_account.specs.Account.{Account, more_kb, took, with_item}
use Rattle.mcs_account.specs.Images.{account_of, operands_of}
use Rattle.mcs_account.proofs.AccountLemmas.{last-image}
use Rattle.mcs_account.proofs.account.Account.end_item.Goals as goal

pub returns-in_ok-add_item : goal.returns-in_ok-add_item
returns-in_ok-add_item c =
    let a : Account = account_of c.args.self.now in
    let kb : plain.Kb = kb_of c.in-Some.context.now.kb in
    let made = c.in_ok-add_item.ensures ∙ ap (λ v. more_kb (operands_of v.items) (rule_of c.replace-rule.result) kb) c.replace-formulas.ensures.value ∙ ap (λ r. more_kb a.operands (rule_of r) kb) c.replace-rule.ensures.value in
    let last = last-image context_of (with_item a.operands a.rule) c.args.self.now.contexts.items c.args.self.now.contexts.len c.in-Some.context.now (record { name = c.in-Some.context.now.name; kb = c.add_item.new.kb }) c.args.self.now.contexts.ok.0 (c.in-Some.ensures.variant.0 refl) c.in-Some.ensures.value
    (ap (λ (k : plain.Kb). record (context_of c.in-Some.context.now) { kb = k }) made) in
    ap (λ (l : List plain.Context). record a { contexts = l; operands = operands_of c.replace-formulas.new.dest.items; rule = rule_of c.replace-rule.new.dest }) last
    ∙ ap (λ v. record (took a class.EndsItem []) { operands = operands_of v.items; rule = rule_of c.replace-rule.new.dest }) c.replace-formulas.ensures.after
    ∙ ap (λ fs. record (took a class.EndsItem []) { operands = operands_of fs; rule = rule_of c.replace-rule.new.dest }) c.new.ensures.items
    ∙ ap (λ r. record (took a class.EndsItem []) { rule = rule_of r }) c.replace-rule.ensures.after
    ∙ ap (λ r. record (took a class.EndsItem []) { rule = r }) c.empty_rule.ensures
