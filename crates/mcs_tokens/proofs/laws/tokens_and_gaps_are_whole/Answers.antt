use Rattle.mcs_tokens.proofs.Unique.{whole}
use Rattle.mcs_tokens.proofs.laws.tokens_and_gaps_are_whole.Goals as goal

pub returns : goal.returns
returns c = whole
