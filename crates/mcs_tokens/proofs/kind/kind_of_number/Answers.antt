use Rattle.std.proofs.Common.{sym, ◌∙◌}
use Rattle.mcs_tokens.proofs.Numbers.{number_begins}
use Rattle.mcs_tokens.proofs.kind.kind_of_number.Goals as goal

pub bounds-token-0 : goal.bounds-token-0
bounds-token-0 c = (number_begins c.args.token.now (sym c.is_number.ensures ∙ c.if-not-is_number.false)).0
