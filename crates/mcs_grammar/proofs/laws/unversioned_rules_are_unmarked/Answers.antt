use Rattle.mcs_grammar.proofs.Weights.{unversioned-unmarked}
use Rattle.mcs_grammar.proofs.laws.unversioned_rules_are_unmarked.Goals as goal

pub returns : goal.returns
returns c = unversioned-unmarked
