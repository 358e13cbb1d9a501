use Rattle.mcs_tokens.proofs.KindLemmas.{one_kind}
use Rattle.mcs_tokens.proofs.laws.kinds_are_unique.Goals as goal

pub returns : goal.returns
returns c = one_kind
