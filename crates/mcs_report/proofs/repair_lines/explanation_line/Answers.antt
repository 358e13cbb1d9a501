use Rattle.std.proofs.Common.{◌∙◌, ◌++◌, [], ap, codes, decimal}
use Rattle.std.proofs.lemmas.Result.{on_ok_weaker}
use Rattle.mcs_base.proofs.Written.{append_five}
use Rattle.mcs_report.specs.Repairs.{reasons_text, explanation_line}
use Rattle.mcs_report.proofs.repair_lines.explanation_line.Goals as goal

pub returns-clause-ok : goal.returns-clause-ok
unfolding explanation_line
returns-clause-ok c = on_ok_weaker c.push-4.result
    (λ e. e ∙ rw (c.bytes.ensures, c.in_ok-push-3.ensures.ok, c.in_ok-push_reasons.ensures, c.in_ok-push-2.ensures.ok, c.in_ok-push_number.ensures.ok, c.in_ok-push.ensures.ok, c.empty_like-line.ensures)
    (ap (λ t. c.args.out.now ++ t) (append_five [] (codes "explanation ") (decimal c.args.number) (codes ": ") (reasons_text c.args.system.now c.args.edges.now c.args.t) (codes "\n"))))
    c.push-4.ensures.ok
