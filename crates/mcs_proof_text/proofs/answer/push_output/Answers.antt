use Rattle.mcs_base.proofs.SetParts.{members_below_all}
use Rattle.mcs_proof_text.proofs.answer.push_output.Goals as goal

pub push_set-requires : goal.push_set-requires
push_set-requires c = rw c.members.ensures.list (members_below_all c.args.state _ c.requires)
