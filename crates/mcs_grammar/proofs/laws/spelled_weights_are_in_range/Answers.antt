use Rattle.mcs_grammar.proofs.Weights.{spelled-weights}
use Rattle.mcs_grammar.proofs.laws.spelled_weights_are_in_range.Goals as goal

pub returns : goal.returns
returns c = spelled-weights
