use Rattle.std.proofs.Common.{◌∙◌, ◌++◌, [], ap, codes, decimal}
use Rattle.mcs_base.proofs.SetParts.{members_below_all}
use Rattle.std.proofs.lemmas.Result.{on_ok_weaker}
use Rattle.mcs_base.proofs.Written.{append_seven}
use Rattle.mcs_system.proofs.MarkLemmas.{applicable_within}
use Rattle.mcs_report.specs.Listing.{state_line}
use Rattle.mcs_report.specs.Members.{state_text, rules_text}
use Rattle.mcs_report.proofs.lines.push_state_line.Goals as goal

pub push_set-requires : goal.push_set-requires
push_set-requires c = rw c.members.ensures.list (members_below_all c.args.state _ c.requires)

pub push_set-requires-2 : goal.push_set-requires-2
push_set-requires-2 c = rw (c.members-2.ensures.list, c.applicable_rules-rules.ensures) (members_below_all _ _ (applicable_within c.args.system.now c.args.state))

pub returns-clause-ok : goal.returns-clause-ok
unfolding state_line
returns-clause-ok c = rw (← c.applicable_rules-rules.ensures) (on_ok_weaker c.push-5.result
    (λ e. e ∙ rw (c.bytes.ensures, c.in_ok-push-4.ensures.ok, c.in_ok-push_set-2.ensures.ok, c.members-2.ensures.list, c.in_ok-push-3.ensures.ok, c.in_ok-push_set.ensures.ok, c.members.ensures.list, c.in_ok-push-2.ensures.ok, c.in_ok-push_number.ensures.ok, c.in_ok-push.ensures.ok, c.empty_like-line.ensures)
    (ap (λ t. c.args.out.now ++ t) (append_seven [] c.args.word.now (decimal c.args.number) (codes ": ") (state_text c.args.system.now c.args.state) (codes " applicable ") (rules_text c.args.system.now c.applicable_rules-rules.result) (codes "\n"))))
    c.push-5.ensures.ok)
