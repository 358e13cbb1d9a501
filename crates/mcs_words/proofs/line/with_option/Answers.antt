use Rattle.std.proofs.Common.{rules, ◌≡◌, ◌∙◌, ap}
use Rattle.std.proofs.lemmas.Result.{IfOk-weaker}
use Rattle.clap.specs.Words.{app_of, rule_of, with_rule}
use Rattle.mcs_words.specs.Line.{option_rule}
use Rattle.mcs_words.proofs.line.with_option.Goals as goal

pub returns : goal.returns
returns c =
    let rule_is : rule_of c.long.result ≡ option_rule c.args.name.now = search rules in
    IfOk-weaker c.arg.result _ _ (λ r h. h.shape (search rules) ∙ ap (with_rule (app_of c.args.command)) rule_is) c.arg.ensures
