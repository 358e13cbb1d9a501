use Rattle.std.proofs.Common.{◌∙◌, slice_get, codes}
use Rattle.std.proofs.lemmas.Result.{on_ok_weaker}
use Rattle.mcs_base.proofs.SetParts.{members_below_all}
use Rattle.mcs_base.proofs.Written.{line_of_five}
use Rattle.mcs_system.specs.Texts.{name_of_context}
use Rattle.mcs_report.specs.Members.{rules_text}
use Rattle.mcs_proof_text.specs.Lines.{question_text}
use Rattle.mcs_proof_text.proofs.answer.push_question.Goals as goal

pub push_set-requires : goal.push_set-requires
push_set-requires c = rw c.members.ensures.list (members_below_all c.args.active _ c.requires.rules)

pub returns : goal.returns
unfolding question_text
returns c =
    let m = c.args.system.now in
    on_ok_weaker c.push-3.result
    (λ e. e ∙ rw (c.in_ok-push_set.ensures.ok, c.members.ensures.list, c.in_ok-push-2.ensures.ok, c.in_ok-push_context.ensures, c.in_ok-push.ensures.ok)
    (line_of_five c.args.text.now (codes "answer ") (name_of_context (slice_get m.contexts c.args.context)) (codes " ") (rules_text m c.args.active) (codes "\n"))) c.push-3.ensures.ok
