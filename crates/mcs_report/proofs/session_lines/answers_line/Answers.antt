use Rattle.std.proofs.Common.{◌∙◌, append_assoc}
use Rattle.std.proofs.lemmas.Result.{on_ok_weaker}
use Rattle.mcs_report.specs.Sessions.{answers_line}
use Rattle.mcs_report.proofs.session_lines.answers_line.Goals as goal

pub returns-clause-ok : goal.returns-clause-ok
unfolding answers_line
returns-clause-ok c = on_ok_weaker c.push-4.result
    (λ e. e ∙ rw (c.bytes.ensures, c.in_ok-push-3.ensures.ok, c.in_ok-push_number-2.ensures.ok, c.in_ok-push-2.ensures.ok, c.in_ok-push_number.ensures.ok, c.in_ok-push.ensures.ok, c.empty_like-line.ensures) (simp append_assoc)) c.push-4.ensures.ok
