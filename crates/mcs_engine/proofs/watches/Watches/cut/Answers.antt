use Rattle.std.proofs.Common.{rules}
use Rattle.std.proofs.lemmas.Fn.{filter_same}
use Rattle.mcs_engine.proofs.watches.Watches.cut.Goals as goal

pub returns-clause-short : goal.returns-clause-short
returns-clause-short c = filter_same _ _ _ (λ x b f' k. search rules) _ _ c.retain.ensures.filtered
