use Rattle.mcs_tokens.proofs.Unique.{spans_ascend, spans_inside}
use Rattle.mcs_tokens.proofs.laws.tokens_do_not_overlap.Goals as goal

pub returns : goal.returns
returns c = λ bytes at spans h. (spans_ascend bytes at spans h, spans_inside bytes at spans h)
