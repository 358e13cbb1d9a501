use Rattle.std.proofs.Common.{◌∙◌, append_assoc}
use Rattle.std.proofs.lemmas.Result.{on_ok_weaker}
use Rattle.mcs_report.specs.Cheapest.{cheapest_end_line}
use Rattle.mcs_report.proofs.cheapest_lines.cheapest_end_line.Goals as goal

pub returns-clause-ok : goal.returns-clause-ok
unfolding cheapest_end_line
returns-clause-ok c = on_ok_weaker c.push-3.result
    (λ e. e ∙ rw (c.bytes.ensures, c.in_ok-push_count-2.ensures, c.in_ok-push-2.ensures.ok, c.in_ok-push_cost.ensures, c.in_ok-push_count.ensures, c.in_ok-push.ensures.ok, c.empty_like-line.ensures) (simp append_assoc))
    c.push-3.ensures.ok
