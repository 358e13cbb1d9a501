use Rattle.std.proofs.Common.{ap, ◌∙◌}
use Rattle.mcs_base.specs.Pairs.{removed_of}
use Rattle.mcs_base.proofs.PairLemmas.{removed_from}
use Rattle.mcs_base.proofs.pair.Pair.removed.Goals as goal

pub returns : goal.returns
returns c = c.part.ensures.rules ∙ removed_from _ c.part.ensures.in_range ∙ ap removed_of c.self.view_is
