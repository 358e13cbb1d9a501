use Rattle.std.proofs.Common.{◌∙◌, codes}
use Rattle.std.proofs.lemmas.Result.{on_ok_weaker}
use Rattle.mcs_spelling.specs.Parts.{defaults_text}
use Rattle.mcs_proof_text.specs.Lines.{line_text}
use Rattle.mcs_proof_text.proofs.defaults.push_ungrounded.Goals as goal
use Rattle.mcs_base.proofs.Written.{line_of_three}

pub returns : goal.returns
unfolding line_text
returns c = on_ok_weaker c.push-2.result
    (λ e. e ∙ rw (c.in_ok-push_defaults.ensures.ok, c.from.ensures, c.in_ok-push.ensures.ok) (line_of_three c.args.text.now (codes "ungrounded ") (defaults_text c.args.closed) (codes "\n"))) c.push-2.ensures.ok
