use Rattle.std.proofs.Common.{rules, ◌≡◌, ◌∙◌, ap, ap₂}
use Rattle.std.proofs.lemmas.Result.{IfOk-weaker}
use Rattle.clap.specs.Words.{App, app_of, rule_of, with_rule}
use Rattle.mcs_words.specs.Line.{bare_line, job_rule, file_rule, report_rule}
use Rattle.mcs_words.proofs.line.plain_line.Goals as goal

pub returns : goal.returns
returns c =
    let report_is : rule_of c.new.result ≡ report_rule = search rules in
    let one : app_of c.in_ok-named.named ≡ with_rule bare_line job_rule = c.in_ok-named.ensures ∙ ap (λ (a : App). with_rule a job_rule) c.bare_line.ensures in
    let two : app_of c.in_ok-aimed.aimed ≡ with_rule (with_rule bare_line job_rule) file_rule = c.in_ok-aimed.ensures ∙ ap (λ (a : App). with_rule a file_rule) one in
    IfOk-weaker c.arg.result _ _ (λ r h. h.shape (search rules) ∙ ap₂ with_rule two report_is) c.arg.ensures
