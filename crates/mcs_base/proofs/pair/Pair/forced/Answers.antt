use Rattle.std.proofs.Common.{ap, ◌∙◌}
use Rattle.mcs_base.specs.Pairs.{forced_of}
use Rattle.mcs_base.proofs.PairLemmas.{forced-of_rules}
use Rattle.mcs_base.proofs.pair.Pair.forced.Goals as goal

pub returns : goal.returns
returns c = c.part.ensures.rules ∙ forced-of_rules 64 _ c.part.ensures.in_range ∙ ap forced_of c.self.view_is
