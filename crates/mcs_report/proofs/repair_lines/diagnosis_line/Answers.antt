use Rattle.std.proofs.Common.{◌∙◌, ◌++◌, [], ap, codes, decimal}
use Rattle.std.proofs.lemmas.Result.{on_ok_weaker}
use Rattle.mcs_base.proofs.Written.{append_five}
use Rattle.mcs_costs.proofs.CostLemmas.{marks_below}
use Rattle.mcs_report.specs.Repairs.{marks_text, shown_text, diagnosis_line}
use Rattle.mcs_report.proofs.repair_lines.diagnosis_line.Goals as goal

pub push_marks-requires : goal.push_marks-requires
push_marks-requires c = rw (c.members.ensures.list, c.marks.ensures) (marks_below c.args.system.now c.args.diagnosis.now.pair c.requires.marks)

pub push_shown-requires : goal.push_shown-requires
push_shown-requires c = c.requires

pub returns-clause-ok : goal.returns-clause-ok
unfolding diagnosis_line
returns-clause-ok c = on_ok_weaker c.push-3.result
    (λ e. e ∙ rw (c.bytes.ensures, c.in_ok-push_shown.ensures, c.in_ok-push_marks.ensures, c.members.ensures.list, c.marks.ensures, c.in_ok-push-2.ensures.ok, c.in_ok-push_number.ensures.ok, c.in_ok-push.ensures.ok, c.empty_like-line.ensures)
    (ap (λ t. c.args.out.now ++ t) (append_five [] (codes "diagnosis ") (decimal c.args.number) (codes ": ") (marks_text c.args.system.now c.args.diagnosis.now.pair) (shown_text c.args.system.now c.args.diagnosis.now))))
    c.push-3.ensures.ok
