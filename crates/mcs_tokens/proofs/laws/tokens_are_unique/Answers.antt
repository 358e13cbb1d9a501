use Rattle.mcs_tokens.proofs.Unique.{next_is_unique, lists_are_unique}
use Rattle.mcs_tokens.proofs.laws.tokens_are_unique.Goals as goal

pub returns : goal.returns
returns c = record { next = next_is_unique; list = lists_are_unique }
