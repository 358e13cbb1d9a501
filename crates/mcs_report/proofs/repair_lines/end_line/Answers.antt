use Rattle.std.proofs.Common.{◌∙◌, append_assoc}
use Rattle.std.proofs.lemmas.Result.{on_ok_weaker}
use Rattle.mcs_report.specs.Repairs.{end_line}
use Rattle.mcs_report.proofs.repair_lines.end_line.Goals as goal

pub returns-clause-ok : goal.returns-clause-ok
unfolding end_line
returns-clause-ok c = on_ok_weaker c.push-2.result
    (λ e. e ∙ rw (c.bytes.ensures, c.in_ok-push_count-4.ensures, c.in_ok-push_count-3.ensures, c.in_ok-push_count-2.ensures, c.in_ok-push_count.ensures, c.in_ok-push.ensures.ok, c.empty_like-line.ensures) (simp append_assoc))
    c.push-2.ensures.ok
