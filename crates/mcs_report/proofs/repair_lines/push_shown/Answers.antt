use Rattle.std.proofs.Common.{◌∙◌, append_assoc}
use Rattle.std.proofs.lemmas.Result.{on_ok_weaker}
use Rattle.mcs_base.proofs.SetParts.{members_below_all}
use Rattle.mcs_report.proofs.repair_lines.push_shown.Goals as goal

pub push_set-requires : goal.push_set-requires
push_set-requires c = rw c.members.ensures.list (members_below_all c.args.diagnosis.now.state _ c.requires.state)

pub push_set-requires-2 : goal.push_set-requires-2
push_set-requires-2 c = rw c.members-2.ensures.list (members_below_all c.args.diagnosis.now.active _ c.requires.active)

pub returns : goal.returns
returns c = on_ok_weaker c.push-3.result
    (λ e. e ∙ rw (c.in_ok-push_set-2.ensures.ok, c.members-2.ensures.list, c.in_ok-push-2.ensures.ok, c.in_ok-push_set.ensures.ok, c.members.ensures.list, c.in_ok-push.ensures.ok) (simp append_assoc))
    c.push-3.ensures.ok
