use Rattle.mcs_reduct.proofs.GroundedLaws.{one_head_is_plain}
use Rattle.mcs_reduct.proofs.laws.plain_contexts.Goals as goal

pub returns : goal.returns
returns c = one_head_is_plain
