use Rattle.std.proofs.Common.{◌∙◌, decimal, codes}
use Rattle.std.proofs.lemmas.Result.{on_ok_weaker}
use Rattle.mcs_proof_text.specs.Lines.{line_text}
use Rattle.mcs_proof_text.proofs.defaults.push_unsupported.Goals as goal
use Rattle.mcs_base.proofs.Written.{line_of_three}

pub returns : goal.returns
unfolding line_text
returns c = on_ok_weaker c.push-2.result
    (λ e. e ∙ rw (c.in_ok-push_number.ensures.ok, c.from.ensures, c.in_ok-push.ensures.ok) (line_of_three c.args.text.now (codes "unsupported ") (decimal c.args.number) (codes "\n"))) c.push-2.ensures.ok
