use Rattle.std.proofs.Common.{rules, ◌≡◌, ◌∙◌, ap, ap₂}
use Rattle.std.proofs.lemmas.Result.{IfOk-weaker}
use Rattle.clap.specs.Words.{App, app_of, rule_of, with_rule}
use Rattle.mcs_words.specs.Line.{plain_line, budget_rule, workers_rule, proof_rule}
use Rattle.mcs_words.proofs.line.line.Goals as goal

pub returns : goal.returns
returns c =
    let proof_is : rule_of c.action.result ≡ proof_rule = search rules in
    let one : app_of c.in_ok-budgeted.budgeted ≡ with_rule plain_line budget_rule = c.in_ok-budgeted.ensures ∙ ap (λ (a : App). with_rule a budget_rule) c.in_ok-plain_line.ensures in
    let two : app_of c.in_ok-shared.shared ≡ with_rule (with_rule plain_line budget_rule) workers_rule = c.in_ok-shared.ensures ∙ ap (λ (a : App). with_rule a workers_rule) one in
    IfOk-weaker c.arg.result _ _ (λ r h. h.shape (search rules) ∙ ap₂ with_rule two proof_is) c.arg.ensures
