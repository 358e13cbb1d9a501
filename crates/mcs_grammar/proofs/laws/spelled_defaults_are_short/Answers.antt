use Rattle.mcs_grammar.proofs.JustificationLemmas.{defaults-short}
use Rattle.mcs_grammar.proofs.laws.spelled_defaults_are_short.Goals as goal

pub returns : goal.returns
returns c = defaults-short
